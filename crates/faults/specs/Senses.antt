-- The two senses in which a fault rule tolerates a set.
use Rattle.std.specs.Prelude.{ℕ, List, codes}
use Rattle.agreement.specs.Families.{Families, Family}
use Rattle.agreement.specs.Quorums.{Ignores}
use Rattle.faults.specs.declared.rule.Sense.{Sense}
use Rattle.faults.specs.declared.rule.Sense.TheVariants.{Wide, Narrow}

-- The family of a sense.
abbrev pub family : Families → Sense → Family
family f Wide = f.wide
family f Narrow = f.narrow

-- In either sense the stations from n on are ignored.
abbrev pub IgnoresOthers : Families → Type 0
IgnoresOthers f = (sense : Sense) → Ignores f.n (family f sense)

-- A sense in text.
abbrev pub name : Sense → List ℕ
name Wide = codes "wide"
name Narrow = codes "narrow"
