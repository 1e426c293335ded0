-- Messages, and what waits on a network.
use Rattle.std.specs.Prelude.{◌≡◌, ℕ, Bool, ◌&&◌, List, count_by, ◌==◌}
use Rattle.agreement.specs.declared.message.Message.{Message}

-- Two messages agree in all five fields.
abbrev pub message_eq : Message → Message → Bool
message_eq x y =
    (x.sender == y.sender && (x.addressee == y.addressee && x.kind == y.kind))
    && (x.stage == y.stage && x.value == y.value)

-- How often a message is in a list.
abbrev pub copies : Message → List Message → ℕ
copies m xs = count_by (message_eq m) xs

-- The same messages, each as often: order is no part of what waits.
abbrev pub Same : List Message → List Message → Type 0
Same xs ys = (m : Message) → copies m xs ≡ copies m ys

-- What a station says to all: that it prepares or proposes a value in a stage, or that it commits a bit.
pub data Payload : Type 0 where
  prepare propose : ℕ → ℕ → Payload
  commit : ℕ → Payload

-- The message by which station i says so to station k.
abbrev pub message : ℕ → ℕ → Payload → Message
message i k (prepare σ v) = record { sender = i; addressee = k; kind = 1; stage = σ; value = v }
message i k (propose σ v) = record { sender = i; addressee = k; kind = 2; stage = σ; value = v }
message i k (commit b) = record { sender = i; addressee = k; kind = 3; stage = 0; value = b }
