use Rattle.std.proofs.Common.{rules}
use Rattle.agreement.proofs.Numbers.{holds_or}
use Rattle.stations.proofs.StationSet.union.Goals as goal

pub returns : goal.returns
returns c = search (rules, holds_or)
