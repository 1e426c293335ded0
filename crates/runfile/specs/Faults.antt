-- Why a run file is refused: numbers, places and words.
use Rattle.std.specs.Prelude.{ℕ, List, codes}
use Rattle.faults.specs.Faults.{number as rule_number, reason as rule_reason}
use Rattle.rig.specs.Faults.{setup_number, setup_reason}
use Rattle.runfile.specs.declared.fault.FileFault.{FileFault}
use Rattle.runfile.specs.declared.fault.FileFault.TheVariants.{Size, Kind, Lengths, Rule, Form, Setup, Call, Memory}

-- The number of a fault: for a rule's or a setup's fault that fault's own.
abbrev pub number : FileFault → ℕ
number Size = 21
number (Kind k) = 22
number Lengths = 23
number (Rule fault k) = rule_number fault
number (Form k) = 24
number (Setup fault k) = setup_number fault
number (Call k) = 25
number (Memory k) = 51

-- The place of a fault.
abbrev pub place : FileFault → ℕ
place Size = 0
place (Kind k) = k
place Lengths = 12
place (Rule fault k) = k
place (Form k) = k
place (Setup fault k) = k
place (Call k) = k
place (Memory k) = k

-- A fault in words: of a rule or a setup, its own.
abbrev pub reason : FileFault → List ℕ
reason Size = codes "a run file has 12 to 40,000 bytes"
reason (Kind k) = codes "the bodies are a rule, stations, a coin and calls, in this order"
reason Lengths = codes "the lengths do not add up to the file"
reason (Rule fault k) = rule_reason fault
reason (Form k) = codes "these bytes are no such body: a wrong length, an unknown code, or a set bit above 9"
reason (Setup fault k) = setup_reason fault
reason (Call k) = codes "this call is unknown or cut off"
reason (Memory k) = codes "there is no memory for the calls"
