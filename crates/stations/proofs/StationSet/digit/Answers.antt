use Rattle.std.proofs.Common.{rules}
use Rattle.stations.proofs.Digits.{digit_of}
use Rattle.stations.proofs.StationSet.digit.Goals as goal

pub returns : goal.returns
returns c = search (rules, digit_of)
