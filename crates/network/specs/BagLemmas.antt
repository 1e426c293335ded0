-- Proved: a bag keeps the law `Roomy`.
use Rattle.std.proofs.Common.{List, length, arith}
use Rattle.std.proofs.lemmas.Bool.{lt-leb}
use Rattle.agreement.specs.declared.message.Message.{Message}
use Rattle.network.specs.Floors.{Roomy}
use Rattle.network.specs.Bags.{bag, bag_holds}

pub bag_roomy : (w : List Message) → Roomy bag bag_holds w
bag_roomy w = record { at_least_16 = omega arith; below_floor = λ m h. lt-leb 4096 (length w) h }
