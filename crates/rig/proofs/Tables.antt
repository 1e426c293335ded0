-- Records that a table does not have.
use Rattle.std.proofs.Common.{◌≡◌, ℕ, ◌<◌, ◌≤◌, false, ltb, List, length, get_or, sym, refl, ap, ◌∙◌, inl, inr, arith}
use Rattle.std.proofs.Math.ListN.{get_or-eq_default}
use Rattle.agreement.specs.Sets.{Set, below}
use Rattle.agreement.specs.Station.{fresh_station}
use Rattle.agreement.proofs.Tests.{true_or_false}
use Rattle.acts.specs.declared.value.Value.TheVariants.{Zero}
use Rattle.station.specs.declared.station.Station.{Station}
use Rattle.station.specs.Stages.{new_stage}
use Rattle.station.specs.Stations.{read}
use Rattle.station.proofs.Fresh.{fresh}
use Rattle.rig.specs.Tables.{no_record}

-- where each of ten records is opened so, each station is
pub all_opened : (records : List Station) (X : Set) (k : ℕ) → length records ≡ 10 → 10 ≤ k
    → ((i : ℕ) → i < k → read (get_or records i no_record) ≡ fresh_station (below 10 X i))
    → (i : ℕ) → read (get_or records i no_record) ≡ fresh_station (below 10 X i)
all_opened records X k ten h each i = elim (true_or_false (ltb i 10)) [
  | inl l ↦ each i (grind (arith, l, h))
  | inr l ↦
      let past : length records ≤ i = grind (arith, l, ten) in
      let not : below 10 X i ≡ false = rw l refl in
      ap read (get_or-eq_default records no_record past) ∙ fresh false new_stage Zero refl refl ∙ ap fresh_station (sym not)
]
