-- Small facts on tests and numbers.
use Rattle.std.proofs.Common.{◌≡◌, ℕ, ◌<◌, ◌≤◌, Bool, true, false, not, ◌&&◌, ◌||◌, eqb, leb, ◌⊎◌, refl, inl, inr, arith, eqb-true}

pub true_or_false : (b : Bool) → (b ≡ true) ⊎ (b ≡ false)
true_or_false true = inl refl
true_or_false false = inr refl

pub same_truth : (a b : Bool) → (a ≡ true → b ≡ true) → (b ≡ true → a ≡ true) → a ≡ b
same_truth true true p q = refl
same_truth true false p q = let e = p refl in cc
same_truth false true p q = q refl
same_truth false false p q = refl

pub and_left : (a b : Bool) → (a && b) ≡ true → a ≡ true
and_left true b e = refl
and_left false b e = e

pub and_right : (a b : Bool) → (a && b) ≡ true → b ≡ true
and_right true b e = e
and_right false true e = refl
and_right false false e = e

pub and_both : {a b : Bool} → a ≡ true → b ≡ true → (a && b) ≡ true
and_both p q = rw (p, q) refl

pub or_left : (a b : Bool) → a ≡ true → (a || b) ≡ true
or_left a b p = rw p refl

pub or_right : (a b : Bool) → b ≡ true → (a || b) ≡ true
or_right true b p = refl
or_right false b p = p

-- `not (a && not b)` says that b holds where a does
pub implied : (a b : Bool) → not (a && not b) ≡ true → a ≡ true → b ≡ true
implied a b e h = grind arith

pub implies : (a b : Bool) → (a ≡ true → b ≡ true) → not (a && not b) ≡ true
implies true b f = rw (f refl) refl
implies false b f = refl

pub or_cases : (a b : Bool) → (a || b) ≡ true → (a ≡ true) ⊎ (b ≡ true)
or_cases true b e = inl refl
or_cases false b e = inr e

pub and_split : (a b : Bool) → (a && b) ≡ true → (a ≡ true) × (b ≡ true)
and_split a b e = (and_left a b e, and_right a b e)

-- the first holds, and the second does not
pub and_not : (a b : Bool) → (a && not b) ≡ true → (a ≡ true) × (b ≡ false)
and_not a b e = (and_left a (not b) e, grind arith)

pub not_true : (b : Bool) → (b ≡ true → ⊥) → b ≡ false
not_true true h = absurd (h refl)
not_true false h = refl

pub eqb_same : (m : ℕ) → eqb m m ≡ true
eqb_same m = grind arith

pub eqb_is : (m n : ℕ) → m ≡ n → eqb m n ≡ true
eqb_is m n e = grind arith

pub eqb_not : (m n : ℕ) → ¬ (m ≡ n) → eqb m n ≡ false
eqb_not m n e = grind arith

-- two numbers are one, or a test says that they are not
pub same? : (m n : ℕ) → (m ≡ n) ⊎ (eqb m n ≡ false)
same? m n = elim (true_or_false (eqb m n)) [ inl t ↦ inl (eqb-true m n t) | inr t ↦ inr t ]

pub apart_lt : (m n : ℕ) → m ≤ n → eqb m n ≡ false → m < n
apart_lt m n h k = grind arith

pub le_or : (m n : ℕ) → (m ≤ n) ⊎ (n ≤ m)
le_or m n = elim (true_or_false (leb m n)) [ inl t ↦ inl (grind arith) | inr t ↦ inr (grind arith) ]

pub up_to_two : (v : ℕ) → v ≤ 2 → (v ≡ 0) ⊎ ((v ≡ 1) ⊎ (v ≡ 2))
up_to_two v h = elim (same? v 0) [
  | inl e ↦ inl e
  | inr e ↦ elim (same? v 1) [ inl k ↦ inr (inl k) | inr k ↦ inr (inr (grind arith)) ]
]

-- what a table of pairs holds after one more was put into it
pub added : (a : Bool) (x y σ v : ℕ) → (a || (eqb x σ && eqb y v)) ≡ true → (a ≡ true) ⊎ ((x ≡ σ) × (y ≡ v))
added true x y σ v e = inl refl
added false x y σ v e =
    let p = and_split (eqb x σ) (eqb y v) e in inr (eqb-true x σ p.0, eqb-true y v p.1)

pub adds : (a : Bool) (σ v : ℕ) → (a || (eqb σ σ && eqb v v)) ≡ true
adds a σ v = or_right a (eqb σ σ && eqb v v) (and_both (eqb_same σ) (eqb_same v))
