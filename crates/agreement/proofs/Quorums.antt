-- What the four laws say of quorums and blocking sets.
use Rattle.std.proofs.Common.{◌≡◌, ℕ, ◌<◌, Bool, true, false, not, ◌&&◌, ◌||◌, ltb, refl, inl, inr, arith, lt-ltb}
use Rattle.agreement.specs.Sets.{Set, Some, both, below, outside, without}
use Rattle.agreement.specs.Families.{Families, Blocking}
use Rattle.agreement.specs.Quorums.{QuorumsMeet, QuorumBlocks, BlockingReachesOut, QuorumReachesOut}
use Rattle.agreement.specs.Quorums.{ComplementSuffices, OneBlocks, UpwardClosed, ClosedIgnores}
use Rattle.agreement.proofs.Tests.{true_or_false, same_truth, and_both, and_right}
use Rattle.agreement.proofs.Sets.{find}

-- a set is blocking where its being wide-tolerable is absurd
blocks : (f : Families) (X : Set) → (f.wide X ≡ true → ⊥) → Blocking f X
blocks f X k = elim (true_or_false (f.wide X)) [ inl t ↦ absurd (k t) | inr t ↦ t ]

-- a set has a station below n where its having none is absurd
some_of : (n : ℕ) (X : Set) → (((j : ℕ) → j < n → X j ≡ false) → ⊥) → Some n X
some_of n X k = elim (find n X) [ inl s ↦ s | inr none ↦ absurd (k none) ]

covered_meet : (a b c : Bool) → ((a && b) && not c) ≡ false → (not a || not b || c) ≡ true
covered_meet a b c e = grind arith

covered_part : (a c : Bool) → (not a || (a && not c) || c) ≡ true
covered_part a c = grind arith

covered_rest : (a c : Bool) → (a && not c) ≡ false → (not a || c || false) ≡ true
covered_rest a c e = grind arith

covered_both : (c : Bool) → (not c || c || false) ≡ true
covered_both c = grind arith

within_rest : (a c : Bool) → (a && not c) ≡ false → a ≡ true → c ≡ true
within_rest a c e t = grind arith

twice_not : (c : Bool) → not (not c) ≡ true → c ≡ true
twice_not c e = grind arith

turned : (a b : Bool) → (a ≡ true → b ≡ true) → not b ≡ true → not a ≡ true
turned true true p e = e
turned true false p e = cc (p refl)
turned false b p e = refl

pub quorums_meet : QuorumsMeet
quorums_meet f l X Y Z x y z =
    some_of f.n (without (both X Y) Z)
    (λ none. l.no_cover (outside X) (outside Y) Z x y z (λ j h. covered_meet (X j) (Y j) (Z j) (none j h)))

pub quorum_blocks : QuorumBlocks
quorum_blocks f l X Z x z =
    blocks f (without X Z)
    (λ w. l.no_cover (outside X) (without X Z) Z x w z (λ j h. covered_part (X j) (Z j)))

pub blocking_reaches_out : BlockingReachesOut
blocking_reaches_out f l X Z x z =
    some_of f.n (without X Z)
    (λ none. cc (l.wide_parts X Z (λ j h. within_rest (X j) (Z j) (none j h)) z))

pub quorum_reaches_out : QuorumReachesOut
quorum_reaches_out f l X Z x z =
    some_of f.n (without X Z)
    (λ none. l.no_cover (outside X) Z (λ _. false) x z l.empty_is_narrow (λ j h. covered_rest (X j) (Z j) (none j h)))

pub complement_suffices : ComplementSuffices
complement_suffices f l Z z = (
  l.wide_parts (outside (outside Z)) Z (λ j h. twice_not (Z j)) z,
  blocks f (outside Z) (λ w. l.no_cover (outside Z) Z (λ _. false) w z l.empty_is_narrow (λ j h. covered_both (Z j))),
)

pub one_blocks : OneBlocks
one_blocks f l X Y Z c z = elim (true_or_false (f.wide X)) [
  | inr t ↦ inl t
  | inl x ↦ inr (blocks f Y (λ y. l.no_cover X Y Z x y z c))
]

pub upward_closed : UpwardClosed
upward_closed f l X Y p = (
  l.wide_parts (outside Y) (outside X) (λ j h. turned (X j) (Y j) (p j h)),
  λ x. blocks f Y (λ y. cc (l.wide_parts X Y p y)),
)

pub closed_ignores : ClosedIgnores
closed_ignores n family parts X = same_truth (family (below n X)) (family X)
    (parts X (below n X) (λ j h t. and_both (lt-ltb j n h) t))
    (parts (below n X) X (λ j h t. and_right (ltb j n) (X j) t))
