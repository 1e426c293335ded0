-- What making a rule answers: the rule, or the first fault.
use Rattle.std.specs.Prelude.{◌≡◌, ℕ, ◌+◌, ◌*◌, ◌<◌, ◌≤◌, ◌⊎◌, List, Some, None, Ok, Err, vec_items, Option, Result}
use Rattle.faults.specs.declared.fault.Fault.{Fault}
use Rattle.faults.specs.declared.fault.Fault.TheVariants.{Size, NarrowBeyondWide, Cover, CoveredBy, Lists, Form, Memory}
use Rattle.stations.specs.declared.StationSet.{StationSet}
use Rattle.faults.specs.declared.threshold.Threshold.{Threshold}
use Rattle.faults.specs.declared.listed.Listed.{Listed}
use Rattle.faults.specs.declared.size.RuleSize.{RuleSize}
use Rattle.faults.specs.Sizes.{Sized}
use Rattle.faults.specs.Lists.{Proper, Nested, Apart, FirstThree}

-- So many stations, or that no rule has so many.
abbrev pub SizeMade : ℕ → Result RuleSize Fault → Type 0
SizeMade n (Ok size) = Sized n × (size.n ≡ n)
SizeMade n (Err e) = (e ≡ Size) × (Sized n → ⊥)

-- The first fault of a threshold rule, in the order size, narrow beyond wide, cover.
abbrev pub ThresholdFault : ℕ → ℕ → ℕ → Option Fault → Type 0
ThresholdFault n s a None = Sized n × (a ≤ s) × (a + 2 * s < n)
ThresholdFault n s a (Some Size) = Sized n → ⊥
ThresholdFault n s a (Some NarrowBeyondWide) = Sized n × (s < a)
ThresholdFault n s a (Some Cover) = Sized n × (a ≤ s) × (n ≤ a + 2 * s)
ThresholdFault n s a (Some (CoveredBy three)) = ⊥
ThresholdFault n s a (Some Lists) = ⊥
ThresholdFault n s a (Some Form) = ⊥
ThresholdFault n s a (Some Memory) = ⊥

-- Size and lists with which a listed rule is made.
pub record GoodLists (n : ℕ) (W N : List StationSet) : Type 0 where
  pub sized : Sized n
  pub proper_wide : Proper n W
  pub proper_narrow : Proper n N
  pub nested : Nested n N W
  pub apart : Apart n N W

-- The first fault of a listed rule, in the order size, lists, narrow beyond wide, cover.
abbrev pub ListedFault : ℕ → List StationSet → List StationSet → Option Fault → Type 0
ListedFault n W N None = GoodLists n W N
ListedFault n W N (Some Size) = Sized n → ⊥
ListedFault n W N (Some Lists) = Sized n × (Proper n W → Proper n N → ⊥)
ListedFault n W N (Some NarrowBeyondWide) = Sized n × Proper n W × Proper n N × (Nested n N W → ⊥)
ListedFault n W N (Some (CoveredBy three)) = Sized n × Proper n W × Proper n N × Nested n N W × FirstThree n N W three
ListedFault n W N (Some Cover) = ⊥
ListedFault n W N (Some Form) = ⊥
ListedFault n W N (Some Memory) = ⊥

-- That lists have no fault, or the first.
abbrev pub ListsChecked : ℕ → List StationSet → List StationSet → Result (Unit {0}) Fault → Type 0
ListsChecked n W N (Ok done) = ListedFault n W N None
ListsChecked n W N (Err e) = ListedFault n W N (Some e)

-- A threshold rule with these numbers, or its first fault.
abbrev pub ThresholdMade : ℕ → ℕ → ℕ → Result Threshold Fault → Type 0
ThresholdMade n s a (Ok t) = ThresholdFault n s a None × (t.size.n ≡ n) × (t.s ≡ s) × (t.a ≡ a)
ThresholdMade n s a (Err e) = ThresholdFault n s a (Some e)

-- A listed rule with these lists; or its first fault; or, where there is no fault, that memory is short.
abbrev pub ListedMade : ℕ → List StationSet → List StationSet → Result Listed Fault → Type 0
ListedMade n W N (Ok t) =
    ListedFault n W N None × (t.size.n ≡ n) × (vec_items t.wide ≡ W) × (vec_items t.narrow ≡ N)
ListedMade n W N (Err e) = ListedFault n W N (Some e) ⊎ ((e ≡ Memory) × ListedFault n W N None)
