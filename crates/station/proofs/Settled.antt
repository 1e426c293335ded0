-- Stages in which all values are settled.
use Rattle.std.proofs.Common.{◌≡◌, ℕ, true, false, not, ◌&&◌, eqb, eqb-true, None as none, inl, inr, arith}
use Rattle.agreement.specs.Sets.{holds, outside}
use Rattle.agreement.specs.Families.{Families, Laws}
use Rattle.agreement.proofs.Tests.{or_cases, and_split, not_true}
use Rattle.agreement.proofs.Numbers.{holds_empty}
use Rattle.agreement.proofs.Quorums.{quorum_reaches_out}
use Rattle.station.specs.declared.stage.ValueRecord.{ValueRecord}
use Rattle.station.specs.declared.stage.StageRecord.{StageRecord}
use Rattle.station.specs.Stages.{value_of, is_settled, to_join, to_admit, FirstServed}

-- no station is tolerated widely, and is no quorum
empty_is_wide : (f : Families) → Laws f → f.wide (holds 0) ≡ true
empty_is_wide f l = l.wide_parts (holds 0) (λ _. false) (λ j h e. cc (e, holds_empty j)) (l.narrow_is_wide (λ _. false) l.empty_is_narrow)

empty_is_no_quorum : (f : Families) → Laws f → f.wide (outside (holds 0)) ≡ true → ⊥
empty_is_no_quorum f l q =
    let w = quorum_reaches_out f l (holds 0) (holds 0) q (empty_is_wide f l) in
    let e = and_split (holds 0 w.0) (not (holds 0 w.0)) w.2 in
    cc (e.0, holds_empty w.0)

-- a settled value is neither to be prepared nor to be admitted
settled_value : (f : Families) → Laws f → (r : ValueRecord) → is_settled r ≡ true
    → (to_join f r ≡ false) × (to_admit f r ≡ false)
settled_value f l r h = elim (or_cases (eqb r.preparers 0) (r.prepared && r.admitted) h) [
  | inl e ↦
      let n : r.preparers ≡ 0 = eqb-true r.preparers 0 e in
      let w : f.wide (holds r.preparers) ≡ true = rw n (empty_is_wide f l) in
      let q : f.wide (outside (holds r.preparers)) ≡ false = rw n (not_true (f.wide (outside (holds 0))) (empty_is_no_quorum f l)) in
      (grind arith, grind arith)
  | inr e ↦ let k = and_split r.prepared r.admitted e in (grind arith, grind arith)
]

-- in a stage in which all values are settled rules 2 and 3 do not apply
pub nothing_to_serve : (f : Families) → Laws f → (t : StageRecord) → ((v : ℕ) → is_settled (value_of t v) ≡ true)
    → (σ : ℕ)
    → FirstServed f t σ none
nothing_to_serve f l t h σ = (λ v k. (settled_value f l (value_of t v) (h v)).0, λ v k. (settled_value f l (value_of t v) (h v)).1)
