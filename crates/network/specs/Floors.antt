-- How much a network holds at the least.
use Rattle.std.specs.Prelude.{◌≡◌, ℕ, ◌<◌, ◌≤◌, false, length}
use Rattle.agreement.specs.declared.message.Message.{Message}
use Rattle.agreement.specs.Networks.{Network}

-- What is true of each state of a network: its floor is at least 16, and with fewer messages waiting it turns none away.
pub record Roomy {N : Type 0} (net : Network N) (floor : ℕ) (w : N) : Type 0 where
  pub at_least_16 : 16 ≤ floor
  pub below_floor : (m : Message) → length (net.waiting w) < floor → net.turns_away w m ≡ false
