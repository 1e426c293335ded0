-- The own stations as a set of the program.
use Rattle.std.proofs.Common.{◌≡◌, ℕ, ◌≤◌, min, ◌&&◌, ltb, arith}
use Rattle.agreement.specs.Sets.{Set, below, without}
use Rattle.agreement.specs.Station.{Setting, size, is_own}

-- of a rig's stations those below its size
pub cut : (n : ℕ) (X : Set) → n ≤ 10 → below 10 (below (min n 16) X) ≡ below n X
cut n X h = λ j i. at i j
  where
    at : (i : ℕ) → (ltb i 10 && (ltb i (min n 16) && X i)) ≡ (ltb i n && X i)
    at i = grind (arith, h)

-- those of them that open with 1
pub opened_with : (g : Setting) (i : ℕ) → below (size g.rules) (without g.opens g.guest) i ≡ (is_own g i && g.opens i)
opened_with g i = grind arith
