-- Proved: what lies inside a listed set.
use Rattle.std.proofs.Common.{◌≡◌, ℕ, ◌<◌, Bool, true, false, ◌||◌, List, length, refl, inl, inr}
use Rattle.agreement.proofs.Tests.{true_or_false}
use Rattle.std.proofs.lemmas.List.{get_or_default}
use Rattle.std.proofs.lemmas.Bool.Decides.{Decides-by_or}
use Rattle.std.specs.Bool.{Decides}
use Rattle.std.specs.List.{HoldsAt}
use Rattle.agreement.specs.Sets.{Set, Part, Cover, either, inside, covers}
use Rattle.agreement.specs.Families.{DownwardClosed}
use Rattle.agreement.proofs.Sets.{inside_part, part_inside, every_from}
use Rattle.stations.specs.declared.StationSet.{StationSet}
use Rattle.stations.specs.Members.{members}
use Rattle.faults.specs.Rules.{within}
use Rattle.faults.specs.Lists.{at}

-- it is what some listed set has every station of
pub within_decides : (n : ℕ) (L : List StationSet) (X : Set)
    → Decides (within n L X) ((i : ℕ) × (i < length L) × HoldsAt (λ G. Part n X (members G)) L i)
within_decides n L X =
    Decides-by_or (λ G. inside n X (members G)) (λ G. Part n X (members G)) (λ Gs. within n Gs X)
    (λ G. (inside_part n X (members G), part_inside n X (members G))) refl (λ _ _. refl) L

pub within_at : (n : ℕ) (L : List StationSet) (X : Set) (i : ℕ) → i < length L → inside n X (members (at L i)) ≡ true
    → within n L X ≡ true
within_at n L X i h e = (within_decides n L X).1 (i, h, λ d. rw (get_or_default L i d 0 h) (inside_part n X (members (at L i)) e))

pub within_some : (n : ℕ) (L : List StationSet) (X : Set) → within n L X ≡ true
    → (i : ℕ) × (i < length L) × (inside n X (members (at L i)) ≡ true)
within_some n L X e = let r = (within_decides n L X).0 e in (r.0, r.1, part_inside n X (members (at L r.0)) (r.2 0))

pub within_none : (n : ℕ) (L : List StationSet) (X : Set)
    → ((i : ℕ) → i < length L → inside n X (members (at L i)) ≡ false) → within n L X ≡ false
within_none n L X h = elim (true_or_false (within n L X)) [
  | inl t ↦ let r = within_some n L X t in cc (r.2, h r.0 r.1)
  | inr f ↦ f
]

pub within_parts : (n : ℕ) (L : List StationSet) → DownwardClosed n (within n L)
within_parts n L X Y p e =
    let r = (within_decides n L Y).0 e in
    (within_decides n L X).1 (r.0, r.1, λ d j h t. r.2 d j h (p j h t))

larger : (a b c x y z : Bool) → (a ≡ true → x ≡ true) → (b ≡ true → y ≡ true) → (c ≡ true → z ≡ true)
    → (a || b || c) ≡ true → (z || (x || y)) ≡ true
larger true b c x y z p q r e = rw (p refl) (in_middle z y)
  where
    in_middle : (z y : Bool) → (z || (true || y)) ≡ true
    in_middle true y = refl
    in_middle false y = refl
larger false true c x y z p q r e = rw (q refl) (at_end z x)
  where
    at_end : (z x : Bool) → (z || (x || true)) ≡ true
    at_end true x = refl
    at_end false true = refl
    at_end false false = refl
larger false false c x y z p q r e = rw (r e) refl

-- sets around three that hold every station hold every station
pub cover_larger : (n : ℕ) (X Y Z X' Y' Z' : Set) → inside n X X' ≡ true → inside n Y Y' ≡ true → inside n Z Z' ≡ true
    → Cover n X Y Z → covers n Z' X' Y' ≡ true
cover_larger n X Y Z X' Y' Z' x y z c =
    every_from n (either Z' (either X' Y'))
    (λ j h. larger (X j) (Y j) (Z j) (X' j) (Y' j) (Z' j)
    (inside_part n X X' x j h) (inside_part n Y Y' y j h) (inside_part n Z Z' z j h) (c j h))
