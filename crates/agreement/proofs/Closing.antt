-- What the closing table says, quarter by quarter, and of sets.
use Rattle.std.proofs.Common.{◌≡◌, ℕ, ◌+◌, ◌/◌, ◌%◌, ◌≤◌, Bool, true, false, cond, ◌&&◌, ◌||◌, eqb, ◌⊎◌, Some as some, None as none, Option, sym, refl, ap, ◌∙◌, inl, inr, arith, eqb-true}
use Rattle.std.specs.Option.{option_or, option_map_or}
use Rattle.agreement.specs.Station.{Rules, Grading, bit}
use Rattle.agreement.specs.Station.{grading_of, grading_by, next_input, grading_made, bit_to_commit, bit_at_two, bit_above_zero}
use Rattle.agreement.specs.Law.{Near}
use Rattle.agreement.proofs.Tests.{true_or_false, not_true, or_right, and_split}
use Rattle.agreement.proofs.Tests.{eqb_is, eqb_not, same?, up_to_two}

-- the first of two, where there is one
pub option_or-cases : (x y : Option ℕ) (v : ℕ) → option_or x y ≡ some v → (x ≡ some v) ⊎ ((x ≡ none) × (y ≡ some v))
option_or-cases none y v e = inr (refl, e)
option_or-cases (some a) y v e = inl e

pub option_or-keeps : (x y : Option ℕ) (v : ℕ) → x ≡ some v → option_or x y ≡ some v
option_or-keeps x y v e = rw e refl

pub option_or-some : (o : Option ℕ) (v : ℕ) → (w : ℕ) × (option_or o (some v) ≡ some w)
option_or-some none v = (v, refl)
option_or-some (some a) v = (a, refl)

pub passes_value : (P : ℕ → Bool) (o : Option ℕ) → option_map_or P o false ≡ true → (v : ℕ) × (o ≡ some v) × (P v ≡ true)
passes_value P none e = cc
passes_value P (some v) e = (v, refl, e)

-- bits
pub bit_le : (b : Bool) → bit b ≤ 1
bit_le true = omega arith
bit_le false = omega arith

pub bit_of : (b : ℕ) → b ≤ 1 → (β : Bool) × (bit β ≡ b)
bit_of b h = elim (same? b 0) [ inl e ↦ (false, sym e) | inr e ↦ (true, grind arith) ]

-- the inputs of a station as it is opened
pub open_le : (b : Bool) (σ : ℕ) → cond (eqb σ 0) (bit b) 0 ≤ 1
open_le b σ = elim (eqb σ 0) as (λ t. cond t (bit b) 0 ≤ 1) [ true ↦ bit_le b | false ↦ omega arith ]

-- a grade 2 carries its bit on, whatever the quarter and the coin
pub two_follows : (g : Rules) (σ : ℕ) (P : ℕ → Bool) (d b : ℕ) → grading_of P ≡ (some b, 2) → next_input g σ P d ≡ b
two_follows g σ P d b e = rw e (go (eqb (σ % 2) 0) (eqb (σ % 4) 1))
  where
    go : (x y : Bool) → cond x b (cond y b b) ≡ b
    go x y = grind arith

-- the table, quarter by quarter
pub quarters : (σ : ℕ) → (σ % 2 ≡ 0) ⊎ ((σ % 4 ≡ 1) ⊎ (σ % 4 ≡ 3))
quarters σ = elim (same? (σ % 2) 0) [
  | inl h ↦ inl h
  | inr h ↦ inr (elim (same? (σ % 4) 1) [ inl k ↦ inl k | inr k ↦ inr (grind arith) ])
]

module _ (g : Rules) (σ : ℕ) (P : ℕ → Bool) (d : ℕ) where
  pub follows_even : σ % 2 ≡ 0 → next_input g σ P d ≡ bit_at_two (grading_of P) 2
  follows_even e = rw (eqb_is (σ % 2) 0 e) refl

  pub follows_one : σ % 4 ≡ 1 → next_input g σ P d ≡ bit_at_two (grading_of P) (bit (g.coin (σ / 4)))
  follows_one e = rw (eqb_not (σ % 2) 0 (omega arith), eqb_is (σ % 4) 1 e) refl

  pub follows_three : σ % 4 ≡ 3 → next_input g σ P d ≡ bit_above_zero (grading_of P) d
  follows_three e = rw (eqb_not (σ % 2) 0 (omega arith), eqb_not (σ % 4) 1 (omega arith)) refl

pub makes_odd : (σ : ℕ) (P : ℕ → Bool) → σ % 2 ≡ 1 → grading_made σ P ≡ some (grading_of P)
makes_odd σ P e = rw (eqb_not (σ % 2) 0 (omega arith)) refl

pub commits_is : (σ : ℕ) (P : ℕ → Bool) (b : ℕ) → bit_to_commit σ P ≡ some b → (σ % 4 ≡ 3) × (grading_of P ≡ (some b, 2))
commits_is σ P b e = elim (true_or_false (eqb (σ % 4) 3 && eqb (grading_of P).1 2)) [
  | inl t ↦ let p = and_split (eqb (σ % 4) 3) (eqb (grading_of P).1 2) t in
      let two = eqb-true (grading_of P).1 2 p.1 in
      let q : (grading_of P).0 ≡ some b = rw t at e in
      (eqb-true (σ % 4) 3 p.0, λ i. (q i, two i))
  | inr t ↦ cc (rw t at e)
]

pub commits_does : (σ : ℕ) (P : ℕ → Bool) (b : ℕ) → σ % 4 ≡ 3 → grading_of P ≡ (some b, 2) → bit_to_commit σ P ≡ some b
commits_does σ P b e q = rw (eqb_is (σ % 4) 3 e) (rw q refl)

-- which values come out
pub grade_bit : (a b c : Bool) (v : ℕ) → (grading_by a b c).0 ≡ some v → v ≤ 1
grade_bit a b c v e = grind arith

two_le : (a b c : Bool) (d m : ℕ) → d ≤ m → 1 ≤ m → bit_at_two (grading_by a b c) d ≤ m
two_le a b c d m h k = grind arith

above_le : (a b c : Bool) (d : ℕ) → d ≤ 1 → bit_above_zero (grading_by a b c) d ≤ 1
above_le a b c d h = grind arith

pub follows_bits : (g : Rules) (σ : ℕ) (P : ℕ → Bool) (d : ℕ) → (σ % 2 ≡ 1 → d ≤ 1)
    → (next_input g σ P d ≤ 2) × ((σ + 1) % 2 ≡ 0 → next_input g σ P d ≤ 1)
follows_bits g σ P d h = elim (quarters σ) [
  | inl e ↦ let low = two_le (P 0) (P 1) (P 2) 2 2 (omega arith) (omega arith) in
      (rw (follows_even g σ P d e) low, λ k. absurd (omega arith))
  | inr o ↦ let low : next_input g σ P d ≤ 1 = elim o [
    | inl e ↦ rw (follows_one g σ P d e)
        (two_le (P 0) (P 1) (P 2) (bit (g.coin (σ / 4))) 1 (bit_le (g.coin (σ / 4))) (omega arith))
    | inr e ↦ rw (follows_three g σ P d e) (above_le (P 0) (P 1) (P 2) d (h (omega arith)))
  ] in
      (omega arith, λ k. low)
]

-- a set {b}
pub only_grade : (P : ℕ → Bool) (b : Bool) → P (bit b) ≡ true → ((w : ℕ) → P w ≡ true → w ≡ bit b)
    → grading_of P ≡ (some (bit b), 2)
only_grade P b p u = go b p (none 0) (none 1) (none 2)
  where
    none : (w : ℕ) → ¬ (w ≡ bit b) → P w ≡ false
    none w n = not_true (P w) (λ e. n (u w e))

    go : (c : Bool) → P (bit c) ≡ true → (¬ (0 ≡ bit c) → P 0 ≡ false) → (¬ (1 ≡ bit c) → P 1 ≡ false)
        → (¬ (2 ≡ bit c) → P 2 ≡ false) → grading_of P ≡ (some (bit c), 2)
    go true q z o t = rw (q, z (λ e. omega arith), t (λ e. omega arith)) refl
    go false q z o t = rw (q, o (λ e. omega arith), t (λ e. omega arith)) refl

-- where a bit follows an even stage, its set holds that bit alone
s0 : (b c : Bool) → bit_at_two (grading_by true b c) 2 ≤ 1 → 0 ≡ bit_at_two (grading_by true b c) 2
s0 b c h = grind arith

s1 : (a c : Bool) → bit_at_two (grading_by a true c) 2 ≤ 1 → 1 ≡ bit_at_two (grading_by a true c) 2
s1 a c h = grind arith

s2 : (a b : Bool) → bit_at_two (grading_by a b true) 2 ≤ 1 → ⊥
s2 a b h = grind arith

pub sole_only : (P : ℕ → Bool) → bit_at_two (grading_of P) 2 ≤ 1 → (w : ℕ) → w ≤ 2 → P w ≡ true
    → w ≡ bit_at_two (grading_of P) 2
sole_only P h w k e = elim (up_to_two w k) [
  | inl z ↦ let p : P 0 ≡ true = rw z at e in z ∙ (rw p (s0 (P 1) (P 2) (rw p at h)))
  | inr y ↦ elim y [
    | inl z ↦ let p : P 1 ≡ true = rw z at e in z ∙ (rw p (s1 (P 0) (P 2) (rw p at h)))
    | inr z ↦ let p : P 2 ≡ true = rw z at e in absurd (s2 (P 0) (P 1) (rw p at h))
  ]
]

-- two sets that share a value and hold one bit between them
both_zero : (a b : Bool) → Near (grading_by true false a) (grading_by true false b)
both_zero a b = (grind arith, grind arith, λ _ _. (0, refl, refl))

both_one : (a b : Bool) → Near (grading_by false true a) (grading_by false true b)
both_one a b = (grind arith, grind arith, λ _ _. (1, refl, refl))

both_blank : (a b c d : Bool) → (a ≡ true → d ≡ true → ⊥) → (b ≡ true → c ≡ true → ⊥)
    → Near (grading_by a b true) (grading_by c d true)
both_blank true true c d p q = (omega arith, grind arith, λ x _. absurd (omega arith))
both_blank false false c d p q = (omega arith, grind arith, λ x _. absurd (omega arith))
both_blank true false true false p q = (omega arith, omega arith, λ _ _. (0, refl, refl))
both_blank true false false true p q = absurd (p refl refl)
both_blank false true true false p q = absurd (q refl refl)
both_blank false true false true p q = (omega arith, omega arith, λ _ _. (1, refl, refl))
both_blank a b c d p q = (omega arith, omega arith, λ _ y. absurd (omega arith))

module _ (P Q : ℕ → Bool) (one : (u v : ℕ) → (P u || Q u) ≡ true → (P v || Q v) ≡ true → u ≤ 1 → v ≤ 1 → u ≡ v) where
  not_both : (P 0 || Q 0) ≡ true → (P 1 || Q 1) ≡ true → ⊥
  not_both a b = let e : ◌≡◌ {A = ℕ} 0 1 = one 0 1 a b (omega arith) (omega arith) in omega arith

  pub share_near : (v : ℕ) → v ≤ 2 → P v ≡ true → Q v ≡ true → Near (grading_of P) (grading_of Q)
  share_near v h p q = elim (up_to_two v h) [
    | inl z ↦ let p0 : P 0 ≡ true = rw z at p in let q0 : Q 0 ≡ true = rw z at q in
        let p1 : P 1 ≡ false = not_true (P 1) (λ e. not_both (rw p0 refl) (rw e refl)) in
        let q1 : Q 1 ≡ false = not_true (Q 1) (λ e. not_both (rw p0 refl) (or_right (P 1) (Q 1) e)) in
        rw (p0, q0, p1, q1) (both_zero (P 2) (Q 2))
    | inr y ↦ elim y [
      | inl z ↦ let p1 : P 1 ≡ true = rw z at p in let q1 : Q 1 ≡ true = rw z at q in
          let p0 : P 0 ≡ false = not_true (P 0) (λ e. not_both (rw e refl) (rw p1 refl)) in
          let q0 : Q 0 ≡ false = not_true (Q 0) (λ e. not_both (or_right (P 0) (Q 0) e) (rw p1 refl)) in
          rw (p0, q0, p1, q1) (both_one (P 2) (Q 2))
      | inr z ↦ let p2 : P 2 ≡ true = rw z at p in let q2 : Q 2 ≡ true = rw z at q in
          rw (p2, q2) (both_blank (P 0) (P 1) (Q 0) (Q 1)
          (λ a b. not_both (rw a refl) (or_right (P 1) (Q 1) b)) (λ a b. not_both (or_right (P 0) (Q 0) b) (rw a refl)))
    ]
  ]

-- a grading beside one of grade 2
pub beside_two : (b : ℕ) (y : Grading) (d : ℕ) → Near (some b, 2) y → bit_above_zero y d ≡ b
beside_two b y d a =
    let k = a.2 (omega arith) (omega (arith, a.0)) in
    let e : ◌≡◌ {A = Option ℕ} (some b) (some k.0) = k.1 in
    let n : eqb y.1 0 ≡ false = let h = a.0 in grind arith in
    let u : b ≡ k.0 = cc in
    go y.0 y.1 n (k.2 ∙ ap {B = Option ℕ} some (sym u))
  where
    go : (o : Option ℕ) (m : ℕ) → eqb m 0 ≡ false → o ≡ some b → bit_above_zero (o, m) d ≡ b
    go o m n e = rw (n, e) refl

pub at_two_is : (o : Option ℕ) (m d : ℕ) → ((b : ℕ) → o ≡ some b → m ≡ 2 → b ≡ d) → bit_at_two (o, m) d ≡ d
at_two_is none m d h = elim (true_or_false (eqb m 2)) [ inl e ↦ rw e refl | inr e ↦ rw e refl ]
at_two_is (some b) m d h = elim (true_or_false (eqb m 2)) [ inl e ↦ rw e (h b refl (eqb-true m 2 e)) | inr e ↦ rw e refl ]
