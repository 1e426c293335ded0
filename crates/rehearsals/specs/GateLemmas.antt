-- Proved: a gate keeps the law `Roomy`.
use Rattle.std.proofs.Common.{◌≡◌, ℕ, ◌<◌, Bool, true, false, ◌&&◌, leb, length, refl, arith}
use Rattle.std.proofs.lemmas.Bool.{lt-leb}
use Rattle.network.specs.Floors.{Roomy}
use Rattle.rehearsals.specs.Gates.{GateState, gate, opens_below}

open_with_few : (b : Bool) (n : ℕ) → n < 16 → b && leb 16 n ≡ false
open_with_few true n h = lt-leb 16 n h
open_with_few false n h = refl

pub gate_roomy : (w : GateState) → Roomy gate opens_below w
gate_roomy w = record { at_least_16 = omega arith; below_floor = λ m h. open_with_few w.shut (length w.waiting) h }
