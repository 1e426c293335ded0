use Rattle.std.proofs.Common.{◌≡◌}
use Rattle.agreement.specs.Sets.{below}
use Rattle.stations.specs.Members.{members}
use Rattle.runfile.proofs.station_body.Stations.setup.Given as goal

abbrev pub invariant-loop-station : goal.invariant-loop-station
invariant-loop-station l =
    (l.setup.rounds.count ≡ l.self.rounds) × (members l.setup.guests ≡ below l.station (members l.self.guests))
    × (members l.setup.openings ≡ below l.station (members l.self.openings))
