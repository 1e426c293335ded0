-- A gate carries messages, and goes by more than what waits.
use Rattle.std.proofs.Common.{◌≡◌, ℕ, ◌≤◌, Bool, true, false, ◌&&◌, leb, cond, ◌⊎◌}
use Rattle.std.proofs.Common.{List, [], ◌∷◌, ◌++◌, length, replicate, refl, inl, inr, arith}
use Rattle.std.proofs.lemmas.List.Sums.{sum_by_push}
use Rattle.agreement.proofs.Copies.{copies_more}
use Rattle.agreement.specs.declared.message.Message.{Message}
use Rattle.agreement.specs.Messages.{message_eq, Same}
use Rattle.agreement.specs.Networks.{Exits, Carries}
use Rattle.agreement.specs.Exact.{TurnAwayAlike}
use Rattle.rehearsals.specs.Gates.{GateState, IsGate, gate, gate_taken}

-- a message put behind the others
pub put_last : (m : Message) (w : List Message) → Same (w ++ m ∷ []) (m ∷ w)
put_last m w = λ x. omega (arith, sum_by_push (λ y. cond (message_eq x y) 1 0) w m, copies_more x m w)

-- the oldest message is taken off
gate_takes : (ms : List Message) (b : Bool) (h : ℕ) → let w : GateState = record { waiting = ms; shut = b } in
    (ms ≡ []) ⊎ ((m : Message) × Exits gate h m w (gate_taken w) × (true ≡ true))
gate_takes [] b h = inl refl
gate_takes (m ∷ v) b h = inr (m, (refl, refl, λ x. refl), refl)

shut_with_enough : (b : Bool) (n : ℕ) → (b ≡ true → 16 ≤ n) → b && leb 16 n ≡ b
shut_with_enough true n h = let l = h refl in grind (arith, l)
shut_with_enough false n h = refl

-- where it is shut, enough wait
pub away_while_shut : (w : GateState) (m : Message) → IsGate w → gate.turns_away w m ≡ w.shut
away_while_shut w m k = shut_with_enough w.shut (length w.waiting) k.when_shut

pub gate_carries : Carries gate (λ _. true)
gate_carries = record {
  clears = λ w f. ((refl, refl), refl);
  posts = λ w m f t. ((t, refl, put_last m w.waiting), refl);
  takes = λ w h f. gate_takes w.waiting w.shut h;
}

one : Message
one = record { sender = 0; addressee = 0; kind = 1; stage = 0; value = 0 }

-- a gate at which sixteen messages wait
sixteen : Bool → GateState
sixteen b = record { waiting = replicate 16 one; shut = b }

sixteen_are_gate : (b : Bool) → IsGate (sixteen b)
unfolding sixteen
sixteen_are_gate b = record { within = omega arith; when_open = λ e. omega arith; when_shut = λ e. omega arith }

pub more_than_what_waits : (v : GateState) × (w : GateState) × (m : Message) × IsGate v × IsGate w
    × (v.waiting ≡ w.waiting) × (gate.turns_away v m ≡ true) × (gate.turns_away w m ≡ false)
unfolding sixteen
more_than_what_waits =
    let k = sixteen_are_gate in (sixteen true, sixteen false, one, k true, k false, refl, refl, refl)

pub not_alike : TurnAwayAlike gate gate → ⊥
unfolding sixteen
not_alike h = let e : true ≡ false = h (sixteen true) (sixteen false) one (λ x. refl) in cc
