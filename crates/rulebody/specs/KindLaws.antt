-- Proved: a rule of either kind has one to ten stations and keeps the four laws.
use Rattle.agreement.specs.Families.{Laws}
use Rattle.faults.specs.Sizes.{Sized}
use Rattle.faults.specs.RuleLaws.{threshold_laws, listed_laws}
use Rattle.rulebody.specs.declared.rule.Rule.{Rule}
use Rattle.rulebody.specs.declared.rule.Rule.TheVariants.{Threshold, Listed}
use Rattle.rulebody.specs.Kinds.{meant}

pub sized : (r : Rule) → Sized (meant r).n
sized (Threshold t) = t.size.sized
sized (Listed t) = t.size.sized

pub laws : (r : Rule) → Laws (meant r)
laws (Threshold t) = threshold_laws t.size.n t.s t.a t.nested t.apart
laws (Listed t) = listed_laws t.size.n t.wide.items t.narrow.items t.some t.nested t.apart
