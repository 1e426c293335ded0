use Rattle.std.proofs.Common.{◌≡◌, length}
use Rattle.station.specs.Stations.{read}
use Rattle.rig.specs.Outcomes.{NotedBefore}
use Rattle.rig.proofs.outcome.StationOutcome.of.Given as goal

abbrev pub invariant-loop-round : goal.invariant-loop-round
invariant-loop-round l = (length l.gradings ≡ 8) × NotedBefore l.round (read l.station) l.gradings
