use Rattle.std.proofs.Common.{rules}
use Rattle.stations.proofs.Digits.{all_below, not_all}
use Rattle.stations.proofs.StationSet.has_all.Goals as goal

pub returns-then-n-le16 : goal.returns-then-n-le16
returns-then-n-le16 c = search (rules, all_below)

pub returns-else-n-le16 : goal.returns-else-n-le16
returns-else-n-le16 c = search (rules, not_all 16)
