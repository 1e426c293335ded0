use Rattle.std.proofs.Common.{rules}
use Rattle.stations.proofs.Digits.{ones_below}
use Rattle.stations.proofs.StationSet.count.Goals as goal

pub returns : goal.returns
returns c = search (rules, ones_below)
