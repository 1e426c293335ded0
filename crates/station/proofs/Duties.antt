-- The first act of a stage, and of all stages.
use Rattle.std.proofs.Common.{ℕ, ◌+◌, ◌<◌, ◌≤◌, Bool, Some as some, None as none, Option, subst, arith}
use Rattle.agreement.specs.Station.{Rules, stages, Station, Act, opening, joining, admitting, closing, deciding, Applies, Idle, Due, place}
use Rattle.station.specs.Duties.{NoneOf, FirstOf}

-- of one act for each value, the first value whose act applies, or none where none does
abbrev pub FirstValued : Rules → Station → (ℕ → Act) → Option ℕ → Type 0
FirstValued g s act none = (v : ℕ) → Applies g s (act v) → ⊥
FirstValued g s act (some w) = Applies g s (act w) × ((v : ℕ) → v < w → Applies g s (act v) → ⊥)

-- an opening that applies is its stage's first act
pub first_opening : (g : Rules) (s : Station) (σ v : ℕ) → Applies g s (opening σ v) → FirstOf g s σ (opening σ v)
first_opening g s σ v p = grind arith

-- else the first joining is
pub first_joining : (g : Rules) (s : Station) (σ v : ℕ) → ((w : ℕ) → Applies g s (opening σ w) → ⊥)
    → FirstValued g s (joining σ) (some v) → FirstOf g s σ (joining σ v)
first_joining g s σ v o j = grind arith

-- else the first admitting
pub first_admitting : (g : Rules) (s : Station) (σ v : ℕ) → ((w : ℕ) → Applies g s (opening σ w) → ⊥)
    → FirstValued g s (joining σ) none → FirstValued g s (admitting σ) (some v) → FirstOf g s σ (admitting σ v)
first_admitting g s σ v o j a = grind arith

-- else the closing
pub first_closing : (g : Rules) (s : Station) (σ : ℕ) (P : ℕ → Bool) → ((w : ℕ) → Applies g s (opening σ w) → ⊥)
    → FirstValued g s (joining σ) none → FirstValued g s (admitting σ) none → Applies g s (closing σ P)
    → FirstOf g s σ (closing σ P)
first_closing g s σ P o j a c = grind arith

-- where none of the four applies, no act of the stage does
pub none_of : (g : Rules) (s : Station) (σ : ℕ) → ((w : ℕ) → Applies g s (opening σ w) → ⊥)
    → FirstValued g s (joining σ) none → FirstValued g s (admitting σ) none
    → ((P : ℕ → Bool) → Applies g s (closing σ P) → ⊥) → NoneOf g s σ
none_of g s σ o j a c (closing τ P) i y = c P (subst (λ x. Applies g s (closing x P)) i.1 y)
none_of g s σ o j a c b i y = grind arith

-- no stage up to σ has an act, where none below it has and σ has none
pub none_more : (g : Rules) (s : Station) (σ : ℕ) → ((τ : ℕ) → τ < σ → NoneOf g s τ) → NoneOf g s σ
    → (τ : ℕ) → τ < σ + 1 → NoneOf g s τ
none_more g s σ n h τ k a i y = grind arith

-- the first act of the first stage that has one is due
pub due_first : (g : Rules) (s : Station) (σ : ℕ) (a : Act) → ((τ : ℕ) → τ < σ → NoneOf g s τ) → FirstOf g s σ a
    → Due g s a
due_first g s σ a n f = grind arith

-- where no stage has one, the first deciding is due
pub due_deciding : (g : Rules) (s : Station) (b : ℕ) → ((τ : ℕ) → NoneOf g s τ) → FirstValued g s deciding (some b)
    → Due g s (deciding b)
due_deciding g s b n f = grind arith

-- and where no deciding applies either, no act does
pub none_due : (g : Rules) (s : Station) → ((τ : ℕ) → NoneOf g s τ) → FirstValued g s deciding none → Idle g s
none_due g s n f a y = grind (arith, n (place a).1 a)

-- no stage has an act, where none has that the station has come to
pub none_beyond : (g : Rules) (s : Station) (n : ℕ) → ((τ : ℕ) → τ < n → NoneOf g s τ)
    → ((τ : ℕ) → τ ≤ s.stage → τ < stages g → τ < n) → (τ : ℕ) → NoneOf g s τ
none_beyond g s n k r τ a i y = grind arith
