-- A fault rule by counting keeps the four laws.
use Rattle.std.proofs.Common.{ℕ, ◌+◌, ◌*◌, ◌<◌, ◌≤◌, false, nat_le, arith, le-leb, leb-true}
use Rattle.agreement.specs.Sets.{tally}
use Rattle.agreement.specs.Families.{DownwardClosed, Laws}
use Rattle.agreement.specs.Thresholds.{threshold}
use Rattle.agreement.proofs.Sets.{tally_part, tally_cover, tally_empty}

-- with a set of at most m stations its parts have at most m
at_most_parts : (n m : ℕ) → DownwardClosed n (λ X. nat_le (tally n X) m)
at_most_parts n m X Y p h = le-leb (tally n X) m (omega (arith, tally_part n X Y p, leb-true (tally n Y) m h))

pub threshold_laws : (n s a : ℕ) → a ≤ s → a + 2 * s < n → Laws (threshold n s a)
threshold_laws n s a nested apart = record {
  wide_parts = at_most_parts n s;
  narrow_parts = at_most_parts n a;
  narrow_is_wide = λ X h. le-leb (tally n X) s (omega (arith, leb-true (tally n X) a h));
  empty_is_narrow = le-leb (tally n (λ _. false)) a (omega (arith, tally_empty n));
  no_cover = λ X Y Z x y z c.
      omega (arith, tally_cover n X Y Z c, leb-true (tally n X) s x, leb-true (tally n Y) s y, leb-true (tally n Z) a z);
}
