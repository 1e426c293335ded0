use Rattle.station.specs.Stations.{read}
use Rattle.station.specs.Turns.{rules_of}
use Rattle.station.proofs.Turns.{idle_if_none}
use Rattle.station.proofs.station.Station.is_idle.Goals as goal

pub returns : goal.returns
returns g c coin =
    let G = rules_of (g.F.FaultRule.families c.args.rule.now) c.args.rounds.count coin in
    idle_if_none G (read c.args.self.now) c.due.result c.is_none.result (c.due.ensures coin) c.is_none.ensures
