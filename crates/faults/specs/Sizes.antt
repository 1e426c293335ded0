-- How many stations a rule has.
use Rattle.std.specs.Prelude.{ℕ, ◌≤◌}

-- One to ten.
abbrev pub Sized : ℕ → Type 0
Sized n = (1 ≤ n) × (n ≤ 10)
