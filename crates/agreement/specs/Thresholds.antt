-- What a fault rule by counting tolerates.
use Rattle.std.specs.Prelude.{ℕ, nat_le}
use Rattle.agreement.specs.Sets.{tally}
use Rattle.agreement.specs.Families.{Families}

-- Of n stations, wide is at most s members, narrow at most a.
abbrev pub threshold : ℕ → ℕ → ℕ → Families
threshold n s a = record { n = n; wide = λ X. nat_le (tally n X) s; narrow = λ X. nat_le (tally n X) a }
