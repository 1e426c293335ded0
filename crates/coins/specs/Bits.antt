-- Coins: the bit of each round.
use Rattle.std.specs.Prelude.{ℕ, ◌+◌, ◌*◌, ◌/◌, ◌%◌, ◌^◌, Bool, ◌==◌, ◌&&◌, nat_lt, bit_and, count_ones}
use Rattle.std.specs.Int.{w64, rotate_left}

-- The table coin's bit for round r: the table's binary digit in which 1 counts 2 ^ r, and 0 from round 8 on.
abbrev pub table_bit : ℕ → ℕ → Bool
table_bit table r = nat_lt r 8 && table / 2 ^ r % 2 == 1

-- A number of 64 bits, made from the seed and the round r.
abbrev pub mixed : ℕ → ℕ → ℕ
mixed seed r = (seed + (r + 1) * 11400714819323198485) % 2 ^ 64

-- The seed coin's bit for round r: the parity of the ones in z AND (z rotated left by 29), where z is that number.
abbrev pub seed_bit : ℕ → ℕ → Bool
seed_bit seed r = count_ones (bit_and (mixed seed r) (rotate_left w64 (mixed seed r) 29)) % 2 == 1
