use Rattle.station.proofs.Settled.{nothing_to_serve}
use Rattle.station.proofs.stage.StageRecord.serving.Goals as goal

pub returns-then-is_settled : goal.returns-then-is_settled
returns-then-is_settled g c =
    nothing_to_serve (g.F.FaultRule.families c.args.rule.now) (g.met.F.FaultRule.laws c.args.rule.now) c.args.self.now
    (c.is_settled.ensures.each c.if-is_settled.true) c.args.stage
