-- What reading a run file answers.
use Rattle.std.specs.Prelude.{◌≡◌, ℕ, zero, suc, ◌<◌, ◌⊎◌, List, Some, None, Ok, Err, Result}
use Rattle.rulebody.specs.Format.{byte}
use Rattle.rig.specs.Setups.{new_fault}
use Rattle.calls.specs.declared.call.Call.{Call as Asked}
use Rattle.calls.specs.Format.{encodings}
use Rattle.runfile.specs.declared.file.RunFile.{RunFile}
use Rattle.runfile.specs.declared.fault.FileFault.{FileFault}
use Rattle.runfile.specs.Format.{place_of, body_of, HasBodies}
use Rattle.runfile.specs.Bodies.{ContentsFault}
use Rattle.runfile.specs.Rules.{RuleRead, SayRule}
use Rattle.runfile.specs.Stations.{IsStations}
use Rattle.runfile.specs.Coins.{IsCoin, CoinRead}
use Rattle.runfile.specs.Parts.{RuleFault, SaysStations, StationsFault, CoinFault, CallsFault}

-- A file says a rule, a network and a setup, a coin and calls: just what stands in its four bodies.
pub record Says (file : List ℕ) (run : RunFile) : Type 0 where
  pub bodies : HasBodies file
  pub rule : RuleRead (body_of file 0) (Ok run.rule)
  pub stations : SaysStations (body_of file 1) run.network run.setup
  pub coin : CoinRead (body_of file 2) (Some run.coin)
  pub calls : encodings run.calls.items ≡ body_of file 3

-- Bytes are calls.
abbrev pub AreCalls : List ℕ → Type 0
AreCalls bytes = (calls : List Asked) × (encodings calls ≡ bytes)

-- A body is good, by which of the four it is: a rule that can be made; stations with as many rounds as a rig can have; a
-- coin; calls.
abbrev pub IsGood : ℕ → List ℕ → Type 0
IsGood zero body = SayRule body
IsGood (suc zero) body = IsStations body × (new_fault (byte body 1) ≡ None)
IsGood (suc (suc zero)) body = IsCoin body
IsGood (suc (suc (suc k))) body = AreCalls body

-- The file has four bodies, and those before number k are good.
abbrev pub GoodBefore : ℕ → List ℕ → Type 0
GoodBefore zero file = HasBodies file
GoodBefore (suc k) file = GoodBefore k file × IsGood k (body_of file k)

-- The file is well formed: all four are good.
abbrev pub WellFormed : List ℕ → Type 0
WellFormed file = GoodBefore 4 file

-- The fault of a body at a place, by which of the four it is.
abbrev pub BodyFault : ℕ → List ℕ → ℕ → FileFault → Type 0
BodyFault zero body place e = RuleFault body place e
BodyFault (suc zero) body place e = StationsFault body place e
BodyFault (suc (suc zero)) body place e = CoinFault body place e
BodyFault (suc (suc (suc k))) body place e = CallsFault body place e

-- A file's first fault: that of its contents; or that of a body, where those before it are good.
abbrev pub FirstFault : List ℕ → FileFault → Type 0
FirstFault file e =
    ContentsFault file e
    ⊎ ((k : ℕ) × (k < 4) × GoodBefore k file × BodyFault k (body_of file k) (place_of file k) e)

-- Reading answers what the file says, or its first fault.
abbrev pub FileRead : List ℕ → Result RunFile FileFault → Type 0
FileRead file (Ok run) = Says file run
FileRead file (Err e) = FirstFault file e
