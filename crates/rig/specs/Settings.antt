-- What a rig is opened with.
use Rattle.std.specs.Prelude.{ℕ, Bool, ◌&&◌, count_by, List}
use Rattle.agreement.specs.declared.message.Message.{Message}
use Rattle.agreement.specs.Sets.{Set, below}
use Rattle.agreement.specs.Families.{Families}
use Rattle.agreement.specs.Station.{Setting}
use Rattle.stations.specs.Members.{members}
use Rattle.stations.specs.declared.StationSet.{StationSet}
use Rattle.station.specs.Turns.{rules_of}
use Rattle.rig.specs.declared.setup.Setup.{Setup}

-- The setting by a rule's families, a setup and a coin's bits.
abbrev pub setting_of : Families → Setup → (ℕ → Bool) → Setting
setting_of f p bits = record {
  rules = rules_of f p.rounds.count bits;
  guest = members p.guests;
  opens = members p.openings;
}

-- The stations of a set of the program, of those that a rig can have.
abbrev pub among : StationSet → Set
among x = below 10 (members x)

-- Whether a message goes from a station of a set to one of that set.
abbrev pub between : Set → Message → Bool
between X m = X m.sender && X m.addressee

-- How many such messages wait.
abbrev pub count_between : Set → List Message → ℕ
count_between X w = count_by (between X) w
