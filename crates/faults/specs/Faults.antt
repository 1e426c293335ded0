-- The numbers and the reasons by which faults are reported.
use Rattle.std.specs.Prelude.{ℕ, List, codes}
use Rattle.faults.specs.declared.fault.Fault.{Fault}
use Rattle.faults.specs.declared.fault.Fault.TheVariants.{Size, NarrowBeyondWide, Cover, CoveredBy, Lists, Form, Memory}

-- The numbers.
abbrev pub number : Fault → ℕ
number Size = 1
number NarrowBeyondWide = 2
number Cover = 3
number (CoveredBy three) = 3
number Lists = 4
number Form = 24
number Memory = 51

-- The reasons in words.
abbrev pub reason : Fault → List ℕ
reason Size = codes "a rule has 1 to 10 stations"
reason NarrowBeyondWide = codes "some narrow guests would not be wide guests too"
reason Cover = codes "two sets of wide guests and one of narrow guests could be all the stations"
reason (CoveredBy three) = codes "these sets, two wide and one narrow, hold all the stations (places count from 0)"
reason Lists = codes "a list must have 1 to 8 sets, all of stations that the rule has"
reason Form = codes "these bytes are not a rule body"
reason Memory = codes "there is no memory for the rule"
