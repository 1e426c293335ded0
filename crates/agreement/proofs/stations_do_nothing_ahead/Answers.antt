use Rattle.agreement.proofs.Lasting.{nothing_ahead}
use Rattle.agreement.proofs.stations_do_nothing_ahead.Goals as goal

pub returns : goal.returns
returns g c = nothing_ahead
