use Rattle.std.proofs.Common.{◌≡◌, [], length, take, replicate}
use Rattle.network.proofs.lanes.LanesNetwork.clear.Given as goal

abbrev pub invariant-loop-lane : goal.invariant-loop-lane
invariant-loop-lane l = (length l.lane-items ≡ 10) × (take l.lane-index l.lane-items ≡ replicate l.lane-index [])
