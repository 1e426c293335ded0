use Rattle.std.proofs.Common.{rules}
use Rattle.stations.proofs.Digits.{minus_at}
use Rattle.stations.proofs.StationSet.difference.Goals as goal

pub returns : goal.returns
returns c = search (rules, minus_at)
