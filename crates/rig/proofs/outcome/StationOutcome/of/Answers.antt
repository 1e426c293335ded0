use Rattle.std.proofs.Common.{rules}
use Rattle.station.specs.Stations.{read}
use Rattle.rig.proofs.Noted.{noted_next}
use Rattle.rig.proofs.outcome.StationOutcome.of.Goals as goal

pub loop-round-preserved : goal.loop-round-preserved
loop-round-preserved c = (
  search rules,
  noted_next c.loop-round.round (read c.args.station.now) c.loop-round.gradings c.grading.result
      c.grading-in-loop-round.result (search rules) c.loop-round.invariant.1 c.grading.ensures c.grading-in-loop-round.ensures,
)
