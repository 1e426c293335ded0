-- A message that is news changes the station that hears it.
use Rattle.std.proofs.Common.{◌≡◌, ℕ, Bool, true, cond, not, ◌&&◌, ◌||◌, eqb, Option, Some as some, None as none, is_none, option_map, sym, refl, ap, ◌∙◌, arith}
use Rattle.std.specs.Option.{option_or}
use Rattle.agreement.specs.Station.{Station, with_message}
use Rattle.agreement.specs.Messages.{message, prepare, propose, commit}
use Rattle.agreement.proofs.Tests.{eqb_same}
use Rattle.acts.specs.declared.value.Value.{Value}
use Rattle.acts.specs.Values.{number}

-- a value is there where its number is
pub none_numbered : (o : Option Value) → is_none o ≡ is_none (option_map number o)
none_numbered none = refl
none_numbered (some v) = refl

module _ (s t : Station) (j : ℕ) (b : Bool) where
  pub news_prepare : (σ v : ℕ) → t ≡ with_message (message j 0 (prepare σ v)) s → b ≡ not (s.preparers σ v j) → b ≡ true
      → t ≡ s → ⊥
  news_prepare σ v e f g h =
      let k : s.preparers σ v j ≡ (s.preparers σ v j || (eqb σ σ && (eqb v v && eqb j j))) = ap (λ (u : Station). u.preparers σ v j) (sym h ∙ e) in
      grind (arith, k, f, g, eqb_same σ, eqb_same v, eqb_same j)

  pub news_propose : (σ v : ℕ) → t ≡ with_message (message j 0 (propose σ v)) s → b ≡ is_none (s.proposal σ j)
      → b ≡ true → t ≡ s → ⊥
  news_propose σ v e f g h =
      let k : s.proposal σ j ≡ option_or (s.proposal σ j) (cond (eqb σ σ && eqb j j) (some v) none) =
      ap (λ (u : Station). u.proposal σ j) (sym h ∙ e) in
      stays (s.proposal σ j) (rw (eqb_same σ, eqb_same j) at k) (sym f ∙ g)
    where
      stays : (o : Option ℕ) → o ≡ option_or o (some v) → is_none o ≡ true → ⊥
      stays none k n = cc
      stays (some w) k n = cc

  pub news_commit : (c : ℕ) → t ≡ with_message (message j 0 (commit c)) s → b ≡ not (s.committers c j) → b ≡ true
      → t ≡ s → ⊥
  news_commit c e f g h =
      let k : s.committers c j ≡ (s.committers c j || (eqb c c && eqb j j)) = ap (λ (u : Station). u.committers c j) (sym h ∙ e) in
      grind (arith, k, f, g, eqb_same c, eqb_same j)
