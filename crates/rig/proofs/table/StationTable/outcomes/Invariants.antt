use Rattle.std.proofs.Common.{◌≡◌, length}
use Rattle.rig.specs.Settings.{among}
use Rattle.rig.specs.Tables.{station_in}
use Rattle.rig.proofs.Noted.{NotedStations}
use Rattle.rig.proofs.table.StationTable.outcomes.Given as goal

abbrev pub invariant-loop-station : goal.invariant-loop-station
invariant-loop-station l =
    (length l.outcomes ≡ 10)
    × NotedStations l.station (among l.own) l.rounds.count (station_in l.self) l.outcomes
