-- Gathering the senders whose recorded proposals are admitted, and the values of these.
use Rattle.std.proofs.Common.{◌≡◌, ℕ, ◌+◌, ◌<◌, Bool, true, false, cond, ◌&&◌, ◌||◌, eqb, ltb, nat_lt, ◌↔◌, Option, Some as some, None as none, is_some, option_map, sym, refl, ap, ◌∙◌, inl, inr, arith, eqb-true}
use Rattle.agreement.specs.Sets.{Set, holds, either, only}
use Rattle.agreement.proofs.Numbers.{holds_empty}
use Rattle.agreement.proofs.Tests.{same?, or_cases, or_left, or_right, eqb_is}
use Rattle.acts.specs.declared.value.Value.{Value}
use Rattle.acts.specs.declared.value.ValueSet.TheVariants.{Empty}
use Rattle.acts.specs.Values.{number, values, and_value}

-- Of the proposals o of the senders below n: X holds the senders of which there is one, P the values.
abbrev pub Senders : (ℕ → Option Value) → ℕ → Set → Type 0
Senders o n X = (j : ℕ) → X j ≡ (nat_lt j n && is_some (o j))

abbrev pub Values : (ℕ → Option Value) → ℕ → (ℕ → Bool) → Type 0
Values o n P = (v : ℕ) → (P v ≡ true) ↔ ((j : ℕ) × (j < n) × (option_map number (o j) ≡ some v))

pub senders_none : (o : ℕ → Option Value) → Senders o 0 (holds 0)
senders_none o j = holds_empty j ∙ grind arith

pub senders_on : (o : ℕ → Option Value) (n : ℕ) (v : Value) (X Y : Set) → o n ≡ some v → n < 16
    → Y ≡ cond (ltb n 16) (either X (only n)) X → Senders o n X → Senders o (n + 1) Y
senders_on o n v X Y e h f p j =
    let q = p j in
    let y : Y j ≡ cond (ltb n 16) (X j || eqb j n) (X j) = grind (arith, f) in
    elim (same? j n) [
      | inl k ↦ let i : is_some (o j) ≡ true = rw (k, e) refl in grind arith
      | inr k ↦ grind arith
    ]

pub senders_off : (o : ℕ → Option Value) (n : ℕ) (X : Set) → o n ≡ none → Senders o n X → Senders o (n + 1) X
senders_off o n X e p j =
    let q = p j in
    elim (same? j n) [
      | inl k ↦ let i : is_some (o j) ≡ false = rw (k, e) refl in grind arith
      | inr k ↦ grind arith
    ]

pub values_none : (o : ℕ → Option Value) → Values o 0 (values Empty)
values_none o v = (λ h. cc, λ w. let k = w.1 in absurd (omega arith))

pub values_on : (o : ℕ → Option Value) (n : ℕ) (u : Value) (P Q : ℕ → Bool) → o n ≡ some u → Q ≡ and_value P (number u)
    → Values o n P → Values o (n + 1) Q
values_on o n u P Q e f p v =
    let q : Q v ≡ (P v || eqb v (number u)) = ap (λ (R : ℕ → Bool). R v) f in
    let at : option_map number (o n) ≡ some (number u) = ap (option_map number) e in (
      λ h. elim (or_cases (P v) (eqb v (number u)) (sym q ∙ h)) [
        | inl t ↦ let w = (p v).0 t in (w.0, omega (arith, w.1), w.2)
        | inr t ↦ (n, omega arith, at ∙ ap some (sym (eqb-true v (number u) t)))
      ],
      λ w. q ∙ elim (same? w.0 n) [
        | inl k ↦
            let m : some (number u) ≡ some v = sym at ∙ ap (λ j. option_map number (o j)) (sym k) ∙ w.2 in
            or_right (P v) (eqb v (number u)) (eqb_is v (number u) cc)
        | inr k ↦ or_left (P v) (eqb v (number u)) ((p v).1 (w.0, grind (arith, w.1), w.2))
      ],
    )

pub values_off : (o : ℕ → Option Value) (n : ℕ) (P : ℕ → Bool) → o n ≡ none → Values o n P → Values o (n + 1) P
values_off o n P e p v = (
  λ h. let w = (p v).0 h in (w.0, omega (arith, w.1), w.2),
  λ w. elim (same? w.0 n) [
    | inl k ↦ let m : none ≡ some v = sym (ap (option_map number) e) ∙ ap (λ j. option_map number (o j)) (sym k) ∙ w.2 in cc
    | inr k ↦ (p v).1 (w.0, grind (arith, w.1), w.2)
  ],
)
