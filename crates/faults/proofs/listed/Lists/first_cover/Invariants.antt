use Rattle.std.proofs.Common.{◌≡◌, ℕ, ◌<◌, false, length}
use Rattle.faults.specs.Lists.{covered}
use Rattle.faults.proofs.listed.Lists.first_cover.Given as goal

abbrev pub invariant-loop-narrow : goal.invariant-loop-narrow
invariant-loop-narrow l =
    let N = l.self.narrow.now in
    let W = l.self.wide.now in
    (x y z : ℕ) → x < l.narrow → y < length W → z < length W → covered l.self.size.n N W x y z ≡ false

abbrev pub invariant-loop-first : goal.invariant-loop-first
invariant-loop-first l =
    let N = l.self.narrow.now in
    let W = l.self.wide.now in
    (y z : ℕ) → y < l.first → z < length W → covered l.self.size.n N W l.narrow y z ≡ false

abbrev pub invariant-loop-second : goal.invariant-loop-second
invariant-loop-second l =
    (z : ℕ) → z < l.second → covered l.self.size.n l.self.narrow.now l.self.wide.now l.narrow l.first z ≡ false
