-- The rule of a run file.
use Rattle.std.specs.Prelude.{ℕ, ◌+◌, ◌<◌, List, Ok, Err, Result}
use Rattle.faults.specs.declared.fault.Fault.{Fault}
use Rattle.faults.specs.declared.fault.Fault.TheVariants.{Form, Memory}
use Rattle.rulebody.specs.declared.body.RuleBody.{RuleBody}
use Rattle.rulebody.specs.declared.rule.Rule.{Rule}
use Rattle.rulebody.specs.Format.{byte, IsThreshold, IsListed}
use Rattle.rulebody.specs.Bodies.{StandsIn}
use Rattle.rulebody.specs.Making.{BodyMade}

-- The rule that the bytes say, or its first fault; that no rule body stands in the bytes; or that memory is short, where
-- there are sets to keep.
abbrev pub RuleRead : List ℕ → Result Rule Fault → Type 0
RuleRead bytes (Ok rule) = (body : RuleBody) × StandsIn bytes body × BodyMade body (Ok rule)
RuleRead bytes (Err Form) = (IsThreshold bytes → ⊥) × (IsListed bytes → ⊥)
RuleRead bytes (Err Memory) = IsListed bytes × (0 < byte bytes 2 + byte bytes 3)
RuleRead bytes (Err e) = (body : RuleBody) × StandsIn bytes body × BodyMade body (Err e)

-- The bytes say a rule that can be made.
abbrev pub SayRule : List ℕ → Type 0
SayRule bytes = (rule : Rule) × RuleRead bytes (Ok rule)
