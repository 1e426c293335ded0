-- The coin of a run file.
use Rattle.std.specs.Prelude.{◌≡◌, ℕ, Bool, List, length, ◌⊎◌, Some, None, Option}
use Rattle.std.specs.Int.{w64, from_le_bytes}
use Rattle.coins.specs.Bits.{table_bit, seed_bit}
use Rattle.rulebody.specs.Format.{byte}
use Rattle.runfile.specs.declared.coin.FileCoin.{FileCoin}
use Rattle.runfile.specs.declared.coin.FileCoin.TheVariants.{Table, Seed}

-- The bits of the coin that it holds.
abbrev pub bits : FileCoin → ℕ → Bool
bits (Table c) = table_bit c.table
bits (Seed c) = seed_bit c.seed

-- A coin can stand in a body: a table of one byte, or a seed of eight.
abbrev pub IsCoin : List ℕ → Type 0
IsCoin body = (length body ≡ 1) ⊎ (length body ≡ 8)

-- The coin that stands in a body: its table, or its seed, low byte first; none where none can stand there.
abbrev pub CoinRead : List ℕ → Option FileCoin → Type 0
CoinRead body (Some (Table c)) = (length body ≡ 1) × (c.table ≡ byte body 0)
CoinRead body (Some (Seed c)) = (length body ≡ 8) × (c.seed ≡ from_le_bytes w64 body)
CoinRead body None = IsCoin body → ⊥
