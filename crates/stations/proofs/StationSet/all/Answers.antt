use Rattle.std.proofs.Common.{rules}
use Rattle.agreement.proofs.Numbers.{holds_first}
use Rattle.stations.proofs.StationSet.all.Goals as goal

pub returns : goal.returns
returns c = search (rules, holds_first)
