-- What making the rule of a body answers.
use Rattle.std.specs.Prelude.{ℕ, List, Ok, Err, Result}
use Rattle.stations.specs.declared.StationSet.{StationSet}
use Rattle.faults.specs.declared.fault.Fault.{Fault}
use Rattle.faults.specs.Made.{ThresholdMade, ListedMade}
use Rattle.rulebody.specs.declared.body.RuleBody.{RuleBody}
use Rattle.rulebody.specs.declared.body.RuleBody.TheVariants.{Threshold as ThresholdBody, Listed as ListedBody}
use Rattle.rulebody.specs.declared.rule.Rule.{Rule}
use Rattle.rulebody.specs.declared.rule.Rule.TheVariants.{Threshold, Listed}

-- What making a threshold rule answers, as a rule of either kind.
abbrev pub ByThreshold : ℕ → ℕ → ℕ → Result Rule Fault → Type 0
ByThreshold n s a (Ok (Threshold t)) = ThresholdMade n s a (Ok t)
ByThreshold n s a (Ok (Listed t)) = ⊥
ByThreshold n s a (Err e) = ThresholdMade n s a (Err e)

-- What making a listed rule answers, as a rule of either kind.
abbrev pub ByLists : ℕ → List StationSet → List StationSet → Result Rule Fault → Type 0
ByLists n W N (Ok (Threshold t)) = ⊥
ByLists n W N (Ok (Listed t)) = ListedMade n W N (Ok t)
ByLists n W N (Err e) = ListedMade n W N (Err e)

-- Making answers what making the rule that the body says answers.
abbrev pub BodyMade : RuleBody → Result Rule Fault → Type 0
BodyMade (ThresholdBody n s a) = ByThreshold n s a
BodyMade (ListedBody n wide narrow) = ByLists n wide.items narrow.items
