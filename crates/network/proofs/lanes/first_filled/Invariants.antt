use Rattle.std.proofs.Common.{◌≡◌, ℕ, ◌+◌, ◌%◌, ◌<◌, length}
use Rattle.network.specs.Lanes.{in_lane}
use Rattle.network.proofs.lanes.first_filled.Given as goal

abbrev pub invariant-loop-passed : goal.invariant-loop-passed
invariant-loop-passed l = (k : ℕ) → k < l.passed → length (in_lane l.fn.lanes ((l.fn.start + k) % 10)) ≡ 0
