-- In a family that has every part of its sets, what cannot grow by one station is largest.
use Rattle.std.proofs.Common.{◌≡◌, ℕ, true, eqb-true, arith}
use Rattle.agreement.specs.Sets.{Set, Part, either, only}
use Rattle.agreement.specs.Families.{Families, DownwardClosed}
use Rattle.agreement.proofs.Tests.{and_right, and_both, eqb_same}
use Rattle.agreement.proofs.Sets.{every_at, every_from}
use Rattle.faults.specs.declared.rule.Sense.{Sense}
use Rattle.faults.specs.Senses.{family}
use Rattle.survey.specs.Largest.{Largest, cannot_gain, cannot_grow, maximal}

-- X with a station of Y lies inside Y where X does
grown : (n : ℕ) (X Y : Set) (i : ℕ) → Part n X Y → Y i ≡ true → Part n (either X (only i)) Y
grown n X Y i p y j h e = grind (arith, p j h, eqb-true j i)

module _ (f : Families) (s : Sense) (X : Set) where
  pub maximal_largest : DownwardClosed f.n (family f s) → maximal f s X ≡ true → Largest f s X
  maximal_largest parts m = (
    grind arith,
    λ Y y p j h e.
        let none = every_at f.n (cannot_gain f s X) (and_right (family f s X) (cannot_grow f s X) m) j h in
        grind (arith, none, parts (either X (only j)) Y (grown f.n X Y j p e) y),
  )

  pub largest_maximal : Largest f s X → maximal f s X ≡ true
  largest_maximal l = and_both l.0 (every_from f.n (cannot_gain f s X) (λ i h.
      grind (arith, l.1 (either X (only i)), eqb_same i)))
