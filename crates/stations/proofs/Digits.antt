-- What the operations on 16-bit numbers do to the stations that they stand for.
use Rattle.std.proofs.Common.{◌≡◌, ℕ, zero, suc, ◌-◌, ◌*◌, ◌/◌, ◌%◌, ◌^◌, ◌<◌, ◌≤◌, min, false, eqb, sym, refl, ap, ◌∙◌, inl, inr, lt_of_lt_of_le, mod-eq_of_lt, arith, pow_pos, pow_mono}
use Rattle.std.proofs.lemmas.Bool.{cases_lt}
use Rattle.std.proofs.lemmas.Grind.{one_shifted}
use lib.Bits.{bit_and, and_mask}
use lib.Count.{ones}
use Rattle.agreement.specs.Sets.{Set, holds, only, outside, without, every, tally, number}
use Rattle.agreement.proofs.Sets.{every_at}
use Rattle.agreement.proofs.Numbers.{shifted, holds_high, holds_one, holds_and, holds_not, ones_tally, number_holds}

pub digit_of : (x i : ℕ) → eqb (bit_and (x / 2 ^ i) 1) 1 ≡ holds x i
digit_of x i = ap (λ (m : ℕ). eqb m 1) (and_mask (x / 2 ^ i) 1) ∙ sym (shifted x i)

-- `1 << i`
pub single_at : (i j : ℕ) → i < 16 → holds ((1 * 2 ^ i) % 65536) j ≡ only i j
single_at i j h = grind (arith, one_shifted i 65535, holds_one i j)

-- `x & !y`
pub minus_at : (x y j : ℕ) → x < 2 ^ 16 → y < 2 ^ 16 → holds (bit_and x (65535 - y)) j ≡ without (holds x) (holds y) j
minus_at x y j p q = grind (arith, holds_and x (65535 - y) j, holds_not 16 y j q, holds_high 16 x j p)

-- `x & mask(n)`
masked : (x n : ℕ) → x < 2 ^ 16 → bit_and x (2 ^ min n 16 - 1) ≡ x % 2 ^ n
masked x n p = and_mask x (min n 16) ∙ elim (cases_lt n 16) [
  | inl h ↦ grind arith
  | inr h ↦ let q : x < 2 ^ n = lt_of_lt_of_le p (pow_mono h) in grind (arith, mod-eq_of_lt p, mod-eq_of_lt q)
]

-- the machine's count of ones below n
pub ones_below : (x n : ℕ) → x < 2 ^ 16 → ones (bit_and x (2 ^ min n 16 - 1)) ≡ tally n (holds x)
ones_below x n p = rw (masked x n p) (ones_tally n x)

-- a number is 0 where it has no station
zero_number : (n : ℕ) (X : Set) → eqb (number n X) 0 ≡ every n (outside X)
zero_number zero X = refl
zero_number (suc n) X = grind (arith, zero_number n X, pow_pos n)

pub none_below : (x n : ℕ) → x < 2 ^ 16 → eqb (bit_and x (2 ^ min n 16 - 1)) 0 ≡ every n (outside (holds x))
none_below x n p = rw (masked x n p, ← number_holds n x) (zero_number n (holds x))

every_turned : (x n : ℕ) → x < 2 ^ 16 → n ≤ 16 → every n (outside (holds (65535 - x))) ≡ every n (holds x)
every_turned x zero p h = refl
every_turned x (suc n) p h = grind (arith, every_turned x n p, holds_not 16 x n p)

-- the complement, masked, is 0 where every station below n is in the number
pub all_below : (x n : ℕ) → x < 2 ^ 16 → n ≤ 16 → eqb (bit_and (65535 - x) (2 ^ min n 16 - 1)) 0 ≡ every n (holds x)
all_below x n p h = none_below (65535 - x) n (omega arith) ∙ every_turned x n p h

-- no number of w digits has all of more than w stations
pub not_all : (w x n : ℕ) → x < 2 ^ w → w < n → false ≡ every n (holds x)
not_all w x n p h = grind (arith, every_at n (holds x), holds_high w x w p)
