-- The stations of a run file.
use Rattle.std.specs.Prelude.{◌≡◌, ℕ, ◌<◌, Bool, if◌then◌else◌, List, length, ◌⊎◌, Some, None, Option}
use Rattle.agreement.specs.Sets.{Set, holds, either, only}
use Rattle.stations.specs.Members.{members}
use Rattle.rulebody.specs.Format.{byte, word}
use Rattle.rig.specs.declared.setup.Setup.{Setup}
use Rattle.runfile.specs.declared.station_body.NetworkKind.{NetworkKind}
use Rattle.runfile.specs.declared.station_body.NetworkKind.TheVariants.{Bag, Lanes}
use Rattle.runfile.specs.declared.station_body.Stations.{Stations}

-- The code of a network.
abbrev pub network_code : NetworkKind → ℕ
network_code Bag = 1
network_code Lanes = 2

-- A stations body: the code of a network, the rounds, the set of guests and the set of those who open with 1, neither with a
-- bit above 9.
abbrev pub IsStations : List ℕ → Type 0
IsStations body =
    (length body ≡ 6) × ((byte body 0 ≡ 1) ⊎ (byte body 0 ≡ 2)) × (word body 2 < 1024) × (word body 4 < 1024)

-- What stands in a stations body; none where it is no stations body.
abbrev pub StationsRead : List ℕ → Option Stations → Type 0
StationsRead body (Some s) =
    IsStations body × (network_code s.network ≡ byte body 0) × (s.rounds ≡ byte body 1) × (s.guests ≡ word body 2)
    × (s.openings ≡ word body 4)
StationsRead body None = IsStations body → ⊥

-- The setup that a stations body says: its rounds, its guests, and who opens with 1.
pub record SaysSetup (body : List ℕ) (setup : Setup) : Type 0 where
  pub rounds : setup.rounds.count ≡ byte body 1
  pub guests : members setup.guests ≡ holds (word body 2)
  pub openings : members setup.openings ≡ holds (word body 4)

-- The guests, once a station is entered if it is to be one.
abbrev pub with_guest : Bool → ℕ → Set → Set
with_guest b i X = if b then either X (only i) else X
