use Rattle.std.proofs.Common.{rules}
use Rattle.station.proofs.Readings.{advanced_with}
use Rattle.station.proofs.station.Station.advance.Goals as goal

pub returns : goal.returns
returns c =
    advanced_with c.args.self.now c.args.grading c.args.input c.index-self-self.result c.index-self-self-2.result (search rules)
