-- Sets that are entered station by station.
use Rattle.std.proofs.Common.{◌≡◌, ℕ, ◌+◌, ◌<◌, true, false, if◌then◌else◌, inl, inr, ap, ◌∙◌, arith}
use Rattle.agreement.specs.Sets.{Set, below, either, only, without, holds}
use Rattle.agreement.specs.Station.{bit}
use Rattle.agreement.proofs.Numbers.{holds_empty, holds_high}
use Rattle.agreement.proofs.Tests.{same?, true_or_false, le_or, apart_lt}
use Rattle.rig.specs.Setups.{with_opening}

-- nothing is entered yet
zero_at : (G : Set) (j : ℕ) → holds 0 j ≡ below 0 G j
zero_at G j = grind (arith, holds_empty j)

pub none_yet : (G : Set) → holds 0 ≡ below 0 G
none_yet G = λ i j. zero_at G j i

-- a station of the set is entered
one_at : (k : ℕ) (G : Set) → G k ≡ true → (j : ℕ) → either (below k G) (only k) j ≡ below (k + 1) G j
one_at k G g j = elim (same? j k) [ inl e ↦ grind (arith, g, e) | inr e ↦ grind (arith, g, e) ]

-- a station that is not in the set is passed over
none_at : (k : ℕ) (G : Set) → G k ≡ false → (j : ℕ) → below k G j ≡ below (k + 1) G j
none_at k G g j = elim (same? j k) [ inl e ↦ grind (arith, g, e) | inr e ↦ grind (arith, g, e) ]

-- or taken out
out_at : (k : ℕ) (G : Set) → G k ≡ false → (j : ℕ) → without (below k G) (only k) j ≡ below (k + 1) G j
out_at k G g j = elim (same? j k) [ inl e ↦ grind (arith, g, e) | inr e ↦ grind (arith, g, e) ]

-- the set X, of which the stations below k are entered, becomes Y
module _ (k : ℕ) (G X Y : Set) (so_far : X ≡ below k G) where
  one_more : G k ≡ true → Y ≡ either X (only k) → Y ≡ below (k + 1) G
  one_more g e = e ∙ ap (λ Z. either Z (only k)) so_far ∙ (λ i j. one_at k G g j i)

  none_more : G k ≡ false → Y ≡ X → Y ≡ below (k + 1) G
  none_more g e = e ∙ so_far ∙ (λ i j. none_at k G g j i)

  pub guest_more : Y ≡ (if G k then either X (only k) else X) → Y ≡ below (k + 1) G
  guest_more e = elim (true_or_false (G k)) [
    | inl g ↦ one_more g (e ∙ ap (λ b. if b then either X (only k) else X) g)
    | inr g ↦ none_more g (e ∙ ap (λ b. if b then either X (only k) else X) g)
  ]

  pub bit_more : (b : ℕ) → b ≡ bit (G k) → Y ≡ with_opening k b X → Y ≡ below (k + 1) G
  bit_more b same e = elim (true_or_false (G k)) [
    | inl g ↦ one_more g (e ∙ ap (λ x. with_opening k x X) (same ∙ ap bit g))
    | inr g ↦ e ∙ ap (λ x. with_opening k x X) (same ∙ ap bit g) ∙ ap (λ Z. without Z (only k)) so_far ∙ (λ i j. out_at k G g j i)
  ]

-- no station is left
all_at : (x : ℕ) → x < 1024 → (j : ℕ) → below 10 (holds x) j ≡ holds x j
all_at x h j = elim (le_or 10 j) [
  | inl l ↦ grind (arith, holds_high 10 x j h l)
  | inr l ↦ elim (same? j 10) [ inl e ↦ grind (arith, holds_high 10 x j h (omega (arith, e))) | inr e ↦ let b : j < 10 = apart_lt j 10 l e in grind (arith, b) ]
]

pub all_entered : (x : ℕ) (X : Set) → x < 1024 → X ≡ below 10 (holds x) → X ≡ holds x
all_entered x X h e = e ∙ (λ i j. all_at x h j i)
