-- Tests over all stations below n.
use Rattle.std.proofs.Common.{◌≡◌, ℕ, zero, suc, ◌+◌, ◌<◌, ◌≤◌, Bool, true, false, cond, ◌||◌, eqb, ◌⊎◌, sym, refl, subst, inl, inr, arith, eqb-true}
use borrow.Author.Tests.{eqb-false}
use Rattle.agreement.specs.Sets.{Set, every, tally, outside, without, inside, Part, Cover, Some}
use Rattle.agreement.proofs.Tests.{true_or_false, and_left, and_right, and_both, implied, implies}

-- at the last station, or at one below it
pub last_or : (P : ℕ → Type 0) (n j : ℕ) → j < suc n → (j < n → P j) → P n → P j
last_or P n j h before here = elim (true_or_false (eqb j n)) [
  | inl t ↦ subst P (sym (eqb-true j n t)) here
  | inr t ↦ let k : (j ≡ n → ⊥) = eqb-false j n t in before (omega (arith, k))
]

pub every_at : (n : ℕ) (X : Set) → every n X ≡ true → (j : ℕ) → j < n → X j ≡ true
every_at zero X e j h = absurd (omega arith)
every_at (suc n) X e j h =
    last_or (λ i. X i ≡ true) n j h (every_at n X (and_left (every n X) (X n) e) j) (and_right (every n X) (X n) e)

pub every_from : (n : ℕ) (X : Set) → ((j : ℕ) → j < n → X j ≡ true) → every n X ≡ true
every_from zero X p = refl
every_from (suc n) X p = and_both (every_from n X (λ j h. p j (omega arith))) (p n (omega arith))

-- a member, or there is none
pub find : (n : ℕ) (X : Set) → Some n X ⊎ ((j : ℕ) → j < n → X j ≡ false)
find zero X = inr (λ j h. absurd (omega arith))
find (suc n) X = elim (find n X) [
  | inl s ↦ inl (s.0, omega arith, s.2)
  | inr none ↦ elim (true_or_false (X n)) [
    | inl t ↦ inl (n, omega arith, t)
    | inr t ↦ inr (λ j h. last_or (λ i. X i ≡ false) n j h (none j) t)
  ]
]

pub inside_part : (n : ℕ) (X Y : Set) → inside n X Y ≡ true → Part n X Y
inside_part n X Y e j h = implied (X j) (Y j) (every_at n (outside (without X Y)) e j h)

pub part_inside : (n : ℕ) (X Y : Set) → Part n X Y → inside n X Y ≡ true
part_inside n X Y p = every_from n (outside (without X Y)) (λ j h. implies (X j) (Y j) (p j h))

-- a part has no more members
pub tally_part : (n : ℕ) (X Y : Set) → Part n X Y → tally n X ≤ tally n Y
tally_part zero X Y p = omega arith
tally_part (suc n) X Y p =
    let k = tally_part n X Y (λ j h. p j (omega arith)) in
    let m = no_more (X n) (Y n) (p n (omega arith)) in
    omega arith
  where
    no_more : (a b : Bool) → (a ≡ true → b ≡ true) → cond a 1 0 ≤ cond b 1 0
    no_more true b q = rw (q refl) (omega arith)
    no_more false b q = omega arith

pub tally_empty : (n : ℕ) → tally n (λ _. false) ≡ 0
tally_empty zero = refl
tally_empty (suc n) = let k = tally_empty n in omega arith

some_one : (a b c : Bool) → (a || b || c) ≡ true → 1 ≤ cond a 1 0 + cond b 1 0 + cond c 1 0
some_one a b c e = grind arith

-- three sets that hold each station below n have at least n members together
pub tally_cover : (n : ℕ) (X Y Z : Set) → Cover n X Y Z → n ≤ tally n X + tally n Y + tally n Z
tally_cover zero X Y Z c = omega arith
tally_cover (suc n) X Y Z c =
    let k = tally_cover n X Y Z (λ j h. c j (omega arith)) in
    let m = some_one (X n) (Y n) (Z n) (c n (omega arith)) in
    omega arith
