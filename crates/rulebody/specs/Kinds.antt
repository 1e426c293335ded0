-- What a rule of either kind tolerates.
use Rattle.agreement.specs.Families.{Families}
use Rattle.faults.specs.Rules.{threshold, listed}
use Rattle.rulebody.specs.declared.rule.Rule.{Rule}
use Rattle.rulebody.specs.declared.rule.Rule.TheVariants.{Threshold, Listed}

-- The families of the rule that it holds.
abbrev pub meant : Rule → Families
meant (Threshold t) = threshold t.size.n t.s t.a
meant (Listed t) = listed t.size.n t.wide.items t.narrow.items
