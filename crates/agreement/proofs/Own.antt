-- What the four laws say of the own stations, where the guests are tolerated.
use Rattle.std.proofs.Common.{◌≡◌, ℕ, Bool, true, false, not, ◌||◌, ◌⊎◌, refl, arith}
use Rattle.agreement.specs.Sets.{Set, Part, Some, both, outside, without}
use Rattle.agreement.specs.Families.{Laws, Blocking, Quorum}
use Rattle.agreement.specs.Station.{Setting, size, Own, is_own}
use Rattle.agreement.specs.Law.{Wide, Narrow}
use Rattle.agreement.proofs.Tests.{and_not}
use Rattle.agreement.proofs.Quorums.{quorums_meet, quorum_blocks, blocking_reaches_out, quorum_reaches_out}
use Rattle.agreement.proofs.Quorums.{complement_suffices, one_blocks, upward_closed}

pub own_is : (g : Setting) (i : ℕ) → Own g i → is_own g i ≡ true
own_is g i o = let h = o.0 in let k = o.1 in grind arith

-- an own station of the set
abbrev pub SomeOwn : Setting → Set → Type 0
SomeOwn g X = (j : ℕ) × Own g j × (X j ≡ true)

-- the set holds all own stations
abbrev pub AllOwn : Setting → Set → Type 0
AllOwn g X = (j : ℕ) → Own g j → X j ≡ true

some_own : (g : Setting) (X : Set) → Some (size g.rules) (without X g.guest) → SomeOwn g X
some_own g X s = let k = and_not (X s.0) (g.guest s.0) s.2 in (s.0, (s.1, k.1), k.0)

own_part : (g : Setting) (X : Set) → AllOwn g X → Part (size g.rules) (outside g.guest) X
own_part g X all j h e = all j (h, turned (g.guest j) e)
  where
    turned : (b : Bool) → not b ≡ true → b ≡ false
    turned b e = grind arith

covered : (a b c : Bool) → (c ≡ false → (a || b) ≡ true) → (a || b || c) ≡ true
covered true b c e = refl
covered false true c e = refl
covered false false true e = refl
covered false false false e = e refl

module _ (g : Setting) (laws : Laws g.rule) where
  pub quorum_grows : (X Y : Set) → Part (size g.rules) X Y → Quorum g.rule X → Quorum g.rule Y
  quorum_grows X Y p = (upward_closed g.rule laws X Y p).0

  pub blocking_grows : (X Y : Set) → Part (size g.rules) X Y → Blocking g.rule X → Blocking g.rule Y
  blocking_grows X Y p = (upward_closed g.rule laws X Y p).1

  -- with wide guests
  pub blocking_own : Wide g → (X : Set) → Blocking g.rule X → SomeOwn g X
  blocking_own wide X x = some_own g X (blocking_reaches_out g.rule laws X g.guest x wide)

  pub quorum_own : Wide g → (X : Set) → Quorum g.rule X → SomeOwn g X
  quorum_own wide X x = some_own g X (quorum_reaches_out g.rule laws X g.guest x wide)

  pub own_quorum : Wide g → (X : Set) → AllOwn g X → Quorum g.rule X
  own_quorum wide X all =
      quorum_grows (outside g.guest) X (own_part g X all) (complement_suffices g.rule laws g.guest wide).0

  pub own_blocks : Wide g → (X : Set) → AllOwn g X → Blocking g.rule X
  own_blocks wide X all =
      blocking_grows (outside g.guest) X (own_part g X all) (complement_suffices g.rule laws g.guest wide).1

  -- with narrow guests
  pub quorums_share : Narrow g → (X Y : Set) → Quorum g.rule X → Quorum g.rule Y → SomeOwn g (both X Y)
  quorums_share narrow X Y x y = some_own g (both X Y) (quorums_meet g.rule laws X Y g.guest x y narrow)

  pub own_part_blocks : Narrow g → (X : Set) → Quorum g.rule X → Blocking g.rule (without X g.guest)
  own_part_blocks narrow X x = quorum_blocks g.rule laws X g.guest x narrow

  pub one_side_blocks : Narrow g → (X Y : Set) → ((j : ℕ) → Own g j → (X j || Y j) ≡ true)
      → Blocking g.rule X ⊎ Blocking g.rule Y
  one_side_blocks narrow X Y all =
      one_blocks g.rule laws X Y g.guest (λ j h. covered (X j) (Y j) (g.guest j) (λ e. all j (h, e))) narrow
