-- What is proved of reading run files: a file determines what is read of it.
use Rattle.std.specs.Prelude.{◌≡◌, ◌≢◌, ℕ, List}
use Rattle.stations.specs.Members.{members}
use Rattle.rulebody.specs.Kinds.{meant}
use Rattle.runfile.specs.declared.file.RunFile.{RunFile}
use Rattle.runfile.specs.declared.fault.FileFault.{FileFault}
use Rattle.runfile.specs.Faults.{number}
use Rattle.runfile.specs.Files.{Says, WellFormed, FirstFault}

-- A file that says something is well formed.
abbrev pub SaidIsWellFormed : Type 0
SaidIsWellFormed = (file : List ℕ) (run : RunFile) → Says file run → WellFormed file

-- A well-formed file has no fault but that memory may be short: number 51.
abbrev pub WellFormedHasNoFault : Type 0
WellFormedHasNoFault = (file : List ℕ) (e : FileFault) → WellFormed file → FirstFault file e → number e ≡ 51

-- So neither has a file that says something.
abbrev pub SaidHasNoFault : Type 0
SaidHasNoFault = (file : List ℕ) (run : RunFile) (e : FileFault) → Says file run → FirstFault file e → number e ≡ 51

-- A file has one first fault, apart from that memory may be short.
abbrev pub OneFirstFault : Type 0
OneFirstFault =
    (file : List ℕ) (d e : FileFault) → FirstFault file d → FirstFault file e → number d ≢ 51 → number e ≢ 51 → d ≡ e

-- Two runs are the same: in the families of the rule, the network, the rounds, the guests, who opens with 1, the coin and
-- the calls.
pub record SameRun (run other : RunFile) : Type 0 where
  pub rule : meant run.rule ≡ meant other.rule
  pub network : run.network ≡ other.network
  pub rounds : run.setup.rounds.count ≡ other.setup.rounds.count
  pub guests : members run.setup.guests ≡ members other.setup.guests
  pub openings : members run.setup.openings ≡ members other.setup.openings
  pub coin : run.coin ≡ other.coin
  pub calls : run.calls.items ≡ other.calls.items

-- A file says one run.
abbrev pub OneRun : Type 0
OneRun = (file : List ℕ) (run other : RunFile) → Says file run → Says file other → SameRun run other
