use Rattle.std.proofs.Common.{ℕ, ◌≡◌, ◌<◌, length, get_or}
use Rattle.agreement.specs.Station.{fresh_station}
use Rattle.station.specs.Stations.{read}
use Rattle.rig.specs.Settings.{among}
use Rattle.rig.specs.Tables.{no_record}
use Rattle.rig.proofs.table.StationTable.new.Given as goal

abbrev pub invariant-loop-station : goal.invariant-loop-station
invariant-loop-station l =
    (length l.records ≡ 10)
    × ((i : ℕ) → i < l.station → read (get_or l.records i no_record) ≡ fresh_station (among l.openings i))
