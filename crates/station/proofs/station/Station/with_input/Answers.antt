use Rattle.station.proofs.Fresh.{fresh}
use Rattle.station.proofs.station.Station.with_input.Goals as goal

pub returns : goal.returns
returns c opening e = fresh opening c.new-stages.result c.args.input c.new-stages.ensures e
