-- Proved: a loan of a network keeps the law `Roomy`.
use Rattle.std.specs.Prelude.{ℕ}
use Rattle.std.specs.Borrow.{MutBor}
use Rattle.agreement.specs.Networks.{Network}
use Rattle.network.specs.Floors.{Roomy}
use Rattle.network.specs.Lent.{lent}

pub lent_roomy : {N : Type 0} (net : Network N) (floor : ℕ) (r : MutBor N) → Roomy net floor r.now → Roomy (lent net) floor r
lent_roomy net floor r law = record { at_least_16 = law.at_least_16; below_floor = law.below_floor }
