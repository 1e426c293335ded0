-- What reading the bodies of a run file answers, each at its place.
use Rattle.std.specs.Prelude.{◌≡◌, ℕ, ◌+◌, List, Vec, Some, Ok, Err, Result}
use Rattle.rulebody.specs.declared.rule.Rule.{Rule as Ruled}
use Rattle.rulebody.specs.Format.{byte}
use Rattle.rig.specs.declared.setup.Setup.{Setup}
use Rattle.rig.specs.Setups.{new_fault}
use Rattle.calls.specs.declared.call.Call.{Call as Asked}
use Rattle.calls.specs.Format.{encodings, HaveCall, BreakAt}
use Rattle.runfile.specs.declared.station_body.NetworkKind.{NetworkKind}
use Rattle.runfile.specs.declared.coin.FileCoin.{FileCoin}
use Rattle.runfile.specs.declared.fault.FileFault.{FileFault}
use Rattle.runfile.specs.declared.fault.FileFault.TheVariants.{Rule, Form, Setup as SetupRefused, Call, Memory}
use Rattle.runfile.specs.Rules.{RuleRead}
use Rattle.runfile.specs.Stations.{network_code, IsStations, SaysSetup}
use Rattle.runfile.specs.Coins.{IsCoin, CoinRead}

-- The fault of the rule body at a place: the rule's own.
abbrev pub RuleFault : List ℕ → ℕ → FileFault → Type 0
RuleFault body place (Rule e k) = (k ≡ place) × RuleRead body (Err e)
RuleFault body place e = ⊥

-- The rule that it says, or its fault.
abbrev pub RulePart : List ℕ → ℕ → Result Ruled FileFault → Type 0
RulePart body place (Ok rule) = RuleRead body (Ok rule)
RulePart body place (Err e) = RuleFault body place e

-- A network and a setup stand in a stations body.
abbrev pub SaysStations : List ℕ → NetworkKind → Setup → Type 0
SaysStations body network setup =
    IsStations body × (network_code network ≡ byte body 0) × SaysSetup body setup

-- The fault of the stations body at a place: its form, or the setup's own.
abbrev pub StationsFault : List ℕ → ℕ → FileFault → Type 0
StationsFault body place (Form k) = (k ≡ place) × (IsStations body → ⊥)
StationsFault body place (SetupRefused e k) = (k ≡ place) × IsStations body × (new_fault (byte body 1) ≡ Some e)
StationsFault body place e = ⊥

-- The network and the setup that it says, or its fault.
abbrev pub StationsPart : List ℕ → ℕ → Result (NetworkKind × Setup) FileFault → Type 0
StationsPart body place (Ok said) = SaysStations body said.0 said.1
StationsPart body place (Err e) = StationsFault body place e

-- The fault of the coin body at a place: its form.
abbrev pub CoinFault : List ℕ → ℕ → FileFault → Type 0
CoinFault body place (Form k) = (k ≡ place) × (IsCoin body → ⊥)
CoinFault body place e = ⊥

-- Its coin, or its fault.
abbrev pub CoinPart : List ℕ → ℕ → Result FileCoin FileFault → Type 0
CoinPart body place (Ok coin) = CoinRead body (Some coin)
CoinPart body place (Err e) = CoinFault body place e

-- The fault of the body of calls at a place: where it breaks; or that memory is short, where there is a call to keep.
abbrev pub CallsFault : List ℕ → ℕ → FileFault → Type 0
CallsFault body place (Call k) = (j : ℕ) × (k ≡ place + j) × BreakAt j body
CallsFault body place (Memory k) = (k ≡ place) × HaveCall body
CallsFault body place e = ⊥

-- Its calls, or its fault.
abbrev pub CallsPart : {Z : Type 0} → List ℕ → ℕ → Result (Vec Asked Z) FileFault → Type 0
CallsPart body place (Ok calls) = encodings calls.items ≡ body
CallsPart body place (Err e) = CallsFault body place e
