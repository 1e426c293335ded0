-- What a fault rule means: which sets of guests it tolerates, in a wide and in a narrow sense.
use Rattle.std.specs.Prelude.{◌≡◌, ℕ, Bool, true, false}
use Rattle.agreement.specs.Sets.{Set, Part, Cover, outside}

-- A family of sets of stations is a test on sets.
abbrev pub Family : Type 0
Family = Set → Bool

-- n stations; the sets under which unanimity survives (wide), and those under which agreement does too (narrow).
pub record Families : Type 0 where
  pub n : ℕ
  pub wide : Family
  pub narrow : Family

-- Law 1: with fewer guests a tolerated set stays tolerated in its sense; stations from n on do not count.
abbrev pub DownwardClosed : ℕ → Family → Type 0
DownwardClosed n family = (X Y : Set) → Part n X Y → family Y ≡ true → family X ≡ true

-- Law 2: whatever is tolerated narrowly is tolerated widely.
abbrev pub NarrowIsWide : Families → Type 0
NarrowIsWide f = (X : Set) → f.narrow X ≡ true → f.wide X ≡ true

-- Law 3: to have no guests is tolerated narrowly.
abbrev pub EmptyIsNarrow : Families → Type 0
EmptyIsNarrow f = f.narrow (λ _. false) ≡ true

-- Law 4: two wide sets with a narrow one always leave some station out.
abbrev pub NoCover : Families → Type 0
NoCover f =
    (X Y Z : Set) → f.wide X ≡ true → f.wide Y ≡ true → f.narrow Z ≡ true → Cover f.n X Y Z → ⊥

-- The four laws.
pub record Laws (f : Families) : Type 0 where
  pub wide_parts : DownwardClosed f.n f.wide
  pub narrow_parts : DownwardClosed f.n f.narrow
  pub narrow_is_wide : NarrowIsWide f
  pub empty_is_narrow : EmptyIsNarrow f
  pub no_cover : NoCover f

-- A blocking set is not wide-tolerable.
abbrev pub Blocking : Families → Set → Type 0
Blocking f X = f.wide X ≡ false

-- A quorum is a set such that the stations outside it are wide-tolerable.
abbrev pub Quorum : Families → Set → Type 0
Quorum f X = f.wide (outside X) ≡ true
