use Rattle.std.proofs.Common.{rules}
use Rattle.stations.proofs.Digits.{single_at}
use Rattle.stations.proofs.StationSet.single.Goals as goal

pub returns : goal.returns
returns c = search (rules, single_at)
