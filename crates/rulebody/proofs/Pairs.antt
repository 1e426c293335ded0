-- Bytes two by two.
use Rattle.std.proofs.Common.{◌≡◌, ℕ, zero, suc, ◌+◌, ◌*◌, ◌/◌, ◌%◌, ◌<◌, List, [], length, get_or, drop, arith}
use Rattle.std.proofs.lemmas.List.{get_or-drop, get_or-take}
use Rattle.std.specs.Simd.{first_chunks}
use Rattle.rulebody.specs.Format.{word, ArePairs}

pair_at : (k i : ℕ) (xs : List ℕ) → i < k → word (get_or (first_chunks 2 k xs) i []) 0 ≡ word xs (2 * i)
pair_at zero i xs h = absurd (omega (arith, h))
pair_at (suc k) zero xs h = grind (arith, get_or-take 2 xs 0 0, get_or-take 2 xs 1 0)
pair_at (suc k) (suc i) xs h =
    grind (arith, pair_at k i (drop 2 xs) (omega arith), get_or-drop 2 xs (2 * i) 0, get_or-drop 2 xs (2 * i + 1) 0)

chunks_length : (k : ℕ) (xs : List ℕ) → length (first_chunks 2 k xs) ≡ k
chunks_length zero xs = grind arith
chunks_length (suc k) xs = grind (arith, chunks_length k (drop 2 xs))

pub two_by_two : (bytes : List ℕ) → length bytes % 2 ≡ 0 → ArePairs (first_chunks 2 (length bytes / 2) bytes) bytes
two_by_two bytes e = (
  omega (arith, chunks_length (length bytes / 2) bytes),
  λ i h. pair_at (length bytes / 2) i bytes (omega (arith, chunks_length (length bytes / 2) bytes)),
)
