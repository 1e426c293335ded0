use Rattle.std.proofs.Common.{rules}
use Rattle.stations.proofs.Digits.{none_below}
use Rattle.stations.proofs.StationSet.has_none.Goals as goal

pub returns : goal.returns
returns c = search (rules, none_below)
