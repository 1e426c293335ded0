use Rattle.std.proofs.Common.{rules}
use Rattle.acts.specs.Values.{number}
use Rattle.station.proofs.Readings.{prepared_in}
use Rattle.station.proofs.station.Station.prepare.Goals as goal

pub returns : goal.returns
returns c =
    let e = c.prepare.ensures in
    prepared_in c.args.self.now c.args.stage (number c.args.value) c.index-self-stage.result c.prepare.new.self _
    (record { same = search rules; within = search rules }) e.within e.record
