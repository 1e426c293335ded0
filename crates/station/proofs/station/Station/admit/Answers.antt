use Rattle.std.proofs.Common.{rules}
use Rattle.station.proofs.Readings.{admitted_in}
use Rattle.station.proofs.station.Station.admit.Goals as goal

pub returns-clause-state : goal.returns-clause-state
returns-clause-state c g =
    let e = c.admit-is_first.ensures in
    admitted_in g c.args.self.now c.args.stage c.args.value c.index-self-stage.result c.admit-is_first.new.self _
    (record { same = search rules; within = search rules }) e.within e.record
