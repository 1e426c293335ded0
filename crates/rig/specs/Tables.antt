-- The stations' records, read as the model's stations.
use Rattle.std.specs.Prelude.{◌≡◌, ℕ, replicate, slice_index_or, true, None, option_map}
use Rattle.agreement.specs.declared.message.Message.{Message}
use Rattle.agreement.specs.Sets.{Set}
use Rattle.agreement.specs.Station.{Rules, fresh_station, after_message, Idle, Due, after_act, speech}
use Rattle.agreement.specs.Station as model
use Rattle.agreement.specs.Rig.{Changes, reached}
use Rattle.acts.specs.declared.act.Turn.{Turn}
use Rattle.acts.specs.Acts.{act_of}
use Rattle.acts.specs.Payloads.{payload_of}
use Rattle.station.specs.declared.station.Station.{Station}
use Rattle.station.specs.Stages.{new_stage}
use Rattle.station.specs.Stations.{read}
use Rattle.rig.specs.declared.table.StationTable.{StationTable}

-- The record that is read past a table's end: that of a station which opened with 0, and to which nothing happened.
abbrev pub no_record : Station
no_record = record {
  stages = replicate 33 new_stage;
  committers = replicate 2 0;
  current = 0;
  committed = None;
  decision = None;
}

-- The station with a number.
abbrev pub station_in : StationTable → ℕ → model.Station
station_in t i = read (slice_index_or t.records i no_record)

-- The stations as they are opened: those of a set with 1, and the others with 0.
abbrev pub AreOpened : Set → StationTable → Type 0
AreOpened opens t = (i : ℕ) → station_in t i ≡ fresh_station (opens i)

-- A message goes into its addressee's record, and no other station changes.
abbrev pub Records : ℕ → ℕ → Message → StationTable → StationTable → Type 0
Records n end m t t' = Changes m.addressee (after_message n end m (station_in t m.addressee)) (station_in t) (station_in t')

-- A message goes to its addressee, who records it if it is in a set, and no other station changes.
abbrev pub Receives : Set → ℕ → ℕ → Message → StationTable → StationTable → Type 0
Receives own n end m t t' =
    Changes m.addressee (reached own n end m (station_in t m.addressee)) (station_in t) (station_in t')

-- Station i does the act that is due there, and no other station changes; what is to be said is what the act says.
pub record DoesDueActAt (i : ℕ) (g : Rules) (t t' : StationTable) (turn : Turn) : Type 0 where
  pub due : Due g (station_in t i) (act_of turn.act)
  pub stations : Changes i (after_act g (act_of turn.act) (station_in t i)) (station_in t) (station_in t')
  pub says : option_map payload_of turn.says ≡ speech (act_of turn.act) (station_in t i)

-- No act applies at any station of a set.
abbrev pub AllIdle : Rules → Set → StationTable → Type 0
AllIdle g own t = (i : ℕ) → own i ≡ true → Idle g (station_in t i)
