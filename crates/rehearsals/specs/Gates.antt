-- The gate.
use Rattle.std.specs.Prelude.{◌≡◌, ℕ, ◌<◌, ◌≤◌, nat_le, Bool, true, false, ◌&&◌}
use Rattle.std.specs.Prelude.{List, [], ◌∷◌, ◌++◌, length, drop, slice_get}
use Rattle.agreement.specs.declared.message.Message.{Message}
use Rattle.agreement.specs.Networks.{Network}

-- What waits, the oldest first, and whether the gate has shut and not opened since.
pub record GateState : Type 0 where
  pub waiting : List Message
  pub shut : Bool

-- It shuts when so many messages wait.
abbrev pub shuts_at : ℕ
shuts_at = 40

-- It opens again when fewer than so many wait.
abbrev pub opens_below : ℕ
opens_below = 16

-- The gate once m waits too, behind the others: it shuts if so many wait now.
abbrev pub gate_posted : GateState → Message → GateState
gate_posted w m = let v = w.waiting ++ m ∷ [] in record { waiting = v; shut = nat_le shuts_at (length v) }

-- The gate once the oldest message is taken off: it opens if few are left.
abbrev pub gate_taken : GateState → GateState
gate_taken w = let v = drop 1 w.waiting in record { waiting = v; shut = w.shut && nat_le opens_below (length v) }

-- The network that a gate is: where it has shut, and not so few wait that it opened again, it turns every message away;
-- a take picks the oldest; a clear opens it.
abbrev pub gate : Network GateState
gate = record {
  waiting = λ w. w.waiting;
  turns_away = λ w m. w.shut && nat_le opens_below (length w.waiting);
  picks = λ w hint. slice_get w.waiting 0;
  cleared = λ w. record { waiting = []; shut = false };
  posted = gate_posted;
  taken = λ w hint. gate_taken w;
}

-- What is true of each gate of the program: at most 40 messages wait, fewer where it is open, and 16 or more where it is
-- shut.
pub record IsGate (w : GateState) : Type 0 where
  pub within : length w.waiting ≤ shuts_at
  pub when_open : w.shut ≡ false → length w.waiting < shuts_at
  pub when_shut : w.shut ≡ true → opens_below ≤ length w.waiting
