-- Whether recording a message changes a station.
use Rattle.std.proofs.Common.{◌≡◌, ℕ, Bool, true, false, not, ◌&&◌, ◌||◌, eqb, is_none, ◌⊎◌, refl, ap, inl, inr, arith}
use Rattle.agreement.specs.declared.message.Message.{Message}
use Rattle.agreement.specs.Station.{Setting, Station, with_message}
use Rattle.agreement.specs.Rig.{addressee_after}
use Rattle.agreement.proofs.Tests.{true_or_false}
use Rattle.agreement.proofs.Delivery.{when_told}

-- the message says what its sender had not said to the station
abbrev pub new : Message → Station → Bool
new m s =
    (eqb m.kind 1 && not (s.preparers m.stage m.value m.sender))
    || ((eqb m.kind 2 && is_none (s.proposal m.stage m.sender))
    || (eqb m.kind 3 && not (s.committers m.value m.sender)))

-- where it had not, the record changes
pub new_changes : (m : Message) (s : Station) → new m s ≡ true → with_message m s ≡ s → ⊥
new_changes m s e p =
    let a = ap (λ (t : Station). t.preparers m.stage m.value m.sender) p in
    let b = ap (λ (t : Station). t.proposal m.stage m.sender) p in
    let c = ap (λ (t : Station). t.committers m.value m.sender) p in
    grind arith

-- each table holds what it held
old_tables : (m : Message) (s : Station) → new m s ≡ false → (σ v j : ℕ)
    → ((with_message m s).preparers σ v j ≡ s.preparers σ v j)
    × ((with_message m s).proposal σ j ≡ s.proposal σ j)
    × ((with_message m s).committers v j ≡ s.committers v j)
old_tables m s e σ v j = grind arith

-- where it had, nothing changes
pub old_stays : (m : Message) (s : Station) → new m s ≡ false → with_message m s ≡ s
old_stays m s e = λ i. record {
  preparers = λ σ v j. (old_tables m s e σ v j).0 i;
  proposal = λ σ j. (old_tables m s e σ 0 j).1 i;
  committers = λ b j. (old_tables m s e 0 b j).2 i;
  stage = s.stage;
  input = s.input;
  prepared = s.prepared;
  admitted = s.admitted;
  proposed = s.proposed;
  grading = s.grading;
  committed = s.committed;
  decision = s.decision;
}

-- whether a delivery changes its addressee
pub addressee_changes? : (g : Setting) (m : Message) (s : Station)
    → (addressee_after g m s ≡ s) ⊎ (addressee_after g m s ≡ s → ⊥)
addressee_changes? g m s = when_told (λ t. (t ≡ s) ⊎ (t ≡ s → ⊥)) g m s
    (elim (true_or_false (new m s)) [ inl e ↦ inr (new_changes m s e) | inr e ↦ inl (old_stays m s e) ]) (inl refl)
