-- The search for the act that is due, stage by stage.
use Rattle.std.specs.Prelude.{◌≡◌, ℕ}
use Rattle.agreement.specs.Station.{Rules, Station, Act, Applies, place, Before}

-- An act is of stage σ, by one of the rules 1 to 4.
abbrev pub IsOf : ℕ → Act → Type 0
IsOf σ a = ((place a).0 ≡ 0) × ((place a).1 ≡ σ)

-- No act of stage σ applies.
abbrev pub NoneOf : Rules → Station → ℕ → Type 0
NoneOf g s σ = (a : Act) → IsOf σ a → Applies g s a → ⊥

-- The first act of stage σ that applies.
pub record FirstOf (g : Rules) (s : Station) (σ : ℕ) (a : Act) : Type 0 where
  pub of_stage : IsOf σ a
  pub applies : Applies g s a
  pub first : (b : Act) → IsOf σ b → Before b a → Applies g s b → ⊥
