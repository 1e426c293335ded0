-- Why a call is refused: numbers and words.
use Rattle.std.specs.Prelude.{ℕ, List, codes}
use Rattle.rig.specs.declared.fault.SetupFault.{SetupFault}
use Rattle.rig.specs.declared.fault.SetupFault.TheVariants as setup
use Rattle.rig.specs.declared.fault.CallFault.{CallFault}
use Rattle.rig.specs.declared.fault.CallFault.TheVariants.{NoStation, Guest, NothingDue, NothingWaits, OwnSender, TurnedAway, NoGrading}

-- The number of a setup's fault.
abbrev pub setup_number : SetupFault → ℕ
setup_number setup.Rounds = 5
setup_number setup.Station = 6
setup_number setup.Bit = 7

-- The number of a call's fault.
abbrev pub number : CallFault → ℕ
number NoStation = 11
number Guest = 12
number NothingDue = 13
number NothingWaits = 14
number OwnSender = 15
number TurnedAway = 16
number NoGrading = 18

-- A setup's fault in words.
abbrev pub setup_reason : SetupFault → List ℕ
setup_reason setup.Rounds = codes "a rig has 1 to 8 rounds"
setup_reason setup.Station = codes "stations are numbered 0 to 9"
setup_reason setup.Bit = codes "an opening bit is 0 or 1"

-- A call's fault in words.
abbrev pub reason : CallFault → List ℕ
reason NoStation = codes "the rig has no such station"
reason Guest = codes "the station is a guest"
reason NothingDue = codes "the station has nothing to do"
reason NothingWaits = codes "no message waits"
reason OwnSender = codes "the sender is no guest"
reason TurnedAway = codes "the network turned the message away"
reason NoGrading = codes "the rig has no such round, or the round no such half"
