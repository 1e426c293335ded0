-- Numbers as sets of stations: what the operations of the machine do to each station.
use Rattle.std.proofs.Common.{◌≡◌, ℕ, zero, suc, ◌+◌, ◌-◌, ◌*◌, ◌/◌, ◌%◌, ◌^◌, ◌<◌, ◌≤◌, min, max, Bool, true, false, cond, not, ◌&&◌, ◌||◌, eqb, ltb, sym, refl, ap, ◌∙◌, mod-lt, mod-eq_of_lt, one-add, arith, pow_pos, shr-shr}
use lib.Bits.{bit_and, bit_or, and_step, or_step}
use lib.Count.{ones, ones_in, ones_cat}
use lib.Pow.{mod-pow-add}
use Rattle.agreement.specs.Sets.{Set, holds, number, tally, NumbersAreSets, SetsAreNumbers}

-- station j is in x where x, shifted down by j, is odd
pub shifted : (x j : ℕ) → holds x j ≡ eqb (x / 2 ^ j % 2) 1
shifted x zero = let e : x / 2 ^ 0 ≡ x = omega arith in rw e refl
shifted x (suc j) =
    shifted (x / 2) j ∙ ap (λ (z : ℕ). eqb (z % 2) 1) (shr-shr x 1 j ∙ ap (λ (k : ℕ). x / 2 ^ k) (one-add j))

-- no station from w on
pub holds_high : (w x j : ℕ) → x < 2 ^ w → w ≤ j → holds x j ≡ false
holds_high zero x zero h k = let e : x ≡ 0 = omega arith in rw e refl
holds_high zero x (suc j) h k = holds_high zero (x / 2) j (omega arith) (omega arith)
holds_high (suc w) x zero h k = absurd (omega arith)
holds_high (suc w) x (suc j) h k = holds_high w (x / 2) j (omega arith) (omega arith)

pub holds_empty : (j : ℕ) → holds 0 j ≡ false
holds_empty zero = refl
holds_empty (suc j) = holds_empty j

bit_max : (a b : ℕ) → a < 2 → b < 2 → eqb (max a b) 1 ≡ (eqb a 1 || eqb b 1)
bit_max a b p q = grind arith

bit_min : (a b : ℕ) → a < 2 → b < 2 → eqb (min a b) 1 ≡ (eqb a 1 && eqb b 1)
bit_min a b p q = grind arith

pub holds_or : (x y j : ℕ) → holds (bit_or x y) j ≡ (holds x j || holds y j)
holds_or x y zero =
    let e : bit_or x y % 2 ≡ max (x % 2) (y % 2) = omega (arith, or_step x y) in
    rw e (bit_max (x % 2) (y % 2) (omega arith) (omega arith))
holds_or x y (suc j) =
    let e : bit_or x y / 2 ≡ bit_or (x / 2) (y / 2) = omega (arith, or_step x y) in rw e (holds_or (x / 2) (y / 2) j)

pub holds_and : (x y j : ℕ) → holds (bit_and x y) j ≡ (holds x j && holds y j)
holds_and x y zero =
    let e : bit_and x y % 2 ≡ min (x % 2) (y % 2) = omega (arith, and_step x y) in
    rw e (bit_min (x % 2) (y % 2) (omega arith) (omega arith))
holds_and x y (suc j) =
    let e : bit_and x y / 2 ≡ bit_and (x / 2) (y / 2) = omega (arith, and_step x y) in rw e (holds_and (x / 2) (y / 2) j)

flip : (a b : ℕ) → a < 2 → b ≡ 1 - a → eqb b 1 ≡ not (eqb a 1)
flip a b h e = grind arith

-- the complement over w digits
pub holds_not : (w x j : ℕ) → x < 2 ^ w → j < w → holds (2 ^ w - 1 - x) j ≡ not (holds x j)
holds_not zero x j h k = absurd (omega arith)
holds_not (suc w) x zero h k = flip (x % 2) ((2 ^ suc w - 1 - x) % 2) (omega arith) (omega arith)
holds_not (suc w) x (suc j) h k =
    let e : (2 ^ suc w - 1 - x) / 2 ≡ 2 ^ w - 1 - x / 2 = omega arith in
    rw e (holds_not w (x / 2) j (omega arith) (omega arith))

suc_same : (i j : ℕ) → eqb i j ≡ eqb (suc i) (suc j)
suc_same i j = grind arith

suc_under : (i j : ℕ) → ltb i j ≡ ltb (suc i) (suc j)
suc_under i j = grind arith

-- one station
pub holds_one : (i j : ℕ) → holds (2 ^ i) j ≡ eqb j i
holds_one zero zero = refl
holds_one zero (suc j) = holds_empty j ∙ sym (grind arith)
holds_one (suc i) zero = let e : (2 ^ suc i) % 2 ≡ 0 = omega arith in rw e (grind arith)
holds_one (suc i) (suc j) = let e : (2 ^ suc i) / 2 ≡ 2 ^ i = omega arith in rw e (holds_one i j ∙ suc_same j i)

-- the stations below n
pub holds_first : (n j : ℕ) → holds (2 ^ n - 1) j ≡ ltb j n
holds_first zero zero = refl
holds_first zero (suc j) = holds_empty j ∙ sym (grind arith)
holds_first (suc n) zero = let e : (2 ^ suc n - 1) % 2 ≡ 1 = omega (arith, pow_pos n) in rw e (grind arith)
holds_first (suc n) (suc j) =
    let e : (2 ^ suc n - 1) / 2 ≡ 2 ^ n - 1 = omega (arith, pow_pos n) in rw e (holds_first n j ∙ suc_under j n)

-- one more station on top
holds_add : (n a j : ℕ) → a < 2 ^ n → holds (a + 2 ^ n) j ≡ (eqb j n || holds a j)
holds_add zero a j h = let e : a ≡ 0 = omega arith in rw e (holds_one 0 j ∙ or_empty (eqb j 0) (holds_empty j))
  where
    or_empty : (b : Bool) {c : Bool} → c ≡ false → b ≡ (b || c)
    or_empty true e = refl
    or_empty false e = sym e
holds_add (suc n) a zero h =
    let e : (a + 2 ^ suc n) % 2 ≡ a % 2 = omega arith in
    let z : eqb 0 (suc n) ≡ false = grind arith in
    rw (e, z) refl
holds_add (suc n) a (suc j) h =
    let e : (a + 2 ^ suc n) / 2 ≡ a / 2 + 2 ^ n = omega arith in
    let s : eqb (suc j) (suc n) ≡ eqb j n = sym (suc_same j n) in
    rw (e, s) (holds_add n (a / 2) j (omega arith))

digit : (x : ℕ) → x < 2 → cond (eqb x 1) 1 0 ≡ x
digit x h = grind arith

scaled : (b : Bool) (m : ℕ) → cond b m 0 ≡ cond b 1 0 * m
scaled true m = omega arith
scaled false m = omega arith

-- the digit at n, as a number
pub digit_at : (x n : ℕ) → cond (holds x n) 1 0 ≡ x / 2 ^ n % 2
digit_at x n = ap (λ (b : Bool). cond b 1 0) (shifted x n) ∙ digit (x / 2 ^ n % 2) (mod-lt (x / 2 ^ n) (omega arith))

-- one digit more of a remainder
pub top_digit : (x n : ℕ) → x % 2 ^ suc n ≡ (x / 2 ^ n % 2) * 2 ^ n + x % 2 ^ n
top_digit x n = ap (λ (k : ℕ). x % 2 ^ k) (sym (one-add n)) ∙ mod-pow-add x 1 n

ones_digit : (a : ℕ) → a < 2 → ones a ≡ a
unfolding ones ones_in
ones_digit zero h = refl
ones_digit (suc zero) h = refl
ones_digit (suc (suc a)) h = absurd (omega arith)

-- the machine's count of ones is the number of stations
pub ones_tally : (n x : ℕ) → ones (x % 2 ^ n) ≡ tally n (holds x)
unfolding ones ones_in
ones_tally zero x = let e : x % 1 ≡ 0 = omega arith in ap ones e
ones_tally (suc n) x =
    let f : ones (x % 2 ^ suc n) ≡ ones (x / 2 ^ n % 2) + ones (x % 2 ^ n)
    = ap ones (top_digit x n) ∙ ones_cat n (x / 2 ^ n % 2) (x % 2 ^ n) (mod-lt x (pow_pos n)) in
    let d = ones_digit (x / 2 ^ n % 2) (mod-lt (x / 2 ^ n) (omega arith)) in
    let t = digit_at x n in
    let r = ones_tally n x in
    omega arith

pub number_holds : (n x : ℕ) → number n (holds x) ≡ x % 2 ^ n
number_holds zero x = omega arith
number_holds (suc n) x =
    let d : cond (holds x n) (2 ^ n) 0 ≡ (x / 2 ^ n % 2) * 2 ^ n
    = scaled (holds x n) (2 ^ n) ∙ ap (λ (k : ℕ). k * 2 ^ n) (digit_at x n) in
    let r = number_holds n x in
    let t = top_digit x n in
    omega arith

pub numbers_are_sets : NumbersAreSets
numbers_are_sets n x h = number_holds n x ∙ mod-eq_of_lt h

on_top : (j n : ℕ) (b : Bool) → (j ≡ n → b ≡ true) → (eqb j n || ltb j n && b) ≡ (ltb j (suc n) && b)
on_top j n b f = grind arith

not_on_top : (j n : ℕ) (b : Bool) → (j ≡ n → b ≡ false) → (ltb j n && b) ≡ (ltb j (suc n) && b)
not_on_top j n b f = grind arith

pub number_lt : (n : ℕ) (X : Set) → number n X < 2 ^ n
number_lt zero X = omega arith
number_lt (suc n) X = let k = number_lt n X in let m = at_most (X n) (2 ^ n) in omega arith
  where
    at_most : (b : Bool) (m : ℕ) → cond b m 0 ≤ m
    at_most true m = omega arith
    at_most false m = omega arith

pub holds_number : (n : ℕ) (X : Set) (j : ℕ) → holds (number n X) j ≡ (ltb j n && X j)
holds_number zero X j = holds_empty j ∙ sym (grind arith)
holds_number (suc n) X j = go (X n) refl (holds_number n X j)
  where
    go : (b : Bool) → X n ≡ b → holds (number n X) j ≡ (ltb j n && X j)
        → holds (number n X + cond b (2 ^ n) 0) j ≡ (ltb j (suc n) && X j)
    go true t e =
        holds_add n (number n X) j (number_lt n X)
        ∙ (ap (λ (c : Bool). eqb j n || c) e ∙ on_top j n (X j) (λ q. ap X q ∙ t))
    go false t e =
        let z : number n X + 0 ≡ number n X = omega arith in
        rw z (e ∙ not_on_top j n (X j) (λ q. ap X q ∙ t))

pub sets_are_numbers : SetsAreNumbers
sets_are_numbers n X = (number_lt n X, λ i j. holds_number n X j i)
