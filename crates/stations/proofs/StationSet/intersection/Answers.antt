use Rattle.std.proofs.Common.{rules}
use Rattle.agreement.proofs.Numbers.{holds_and}
use Rattle.stations.proofs.StationSet.intersection.Goals as goal

pub returns : goal.returns
returns c = search (rules, holds_and)
