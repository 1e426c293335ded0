-- Sets of stations.
use Rattle.std.specs.Prelude.{◌≡◌, ℕ, zero, suc, ◌+◌, ◌/◌, ◌%◌, ◌^◌, ◌<◌, Bool, true, if◌then◌else◌, not, ◌&&◌, ◌||◌, ◌==◌, nat_lt}

-- A set of stations is a test on station numbers.
abbrev pub Set : Type 0
Set = ℕ → Bool

-- Station j is in the set with the number x, in which station i counts 2 ^ i: x's binary digit at j is 1.
abbrev pub holds : ℕ → Set
holds x zero = x % 2 == 1
holds x (suc j) = holds (x / 2) j

-- The stations below n.
abbrev pub up_to : ℕ → Set
up_to n j = nat_lt j n

-- The stations that are in X and in Y.
abbrev pub both : Set → Set → Set
both X Y j = X j && Y j

-- The stations of X that lie below n.
abbrev pub below : ℕ → Set → Set
below n X = both (up_to n) X

-- The number that stands for the stations of X below n: station i counts 2 ^ i.
abbrev pub number : ℕ → Set → ℕ
number zero X = 0
number (suc n) X = number n X + (if X n then 2 ^ n else 0)

-- A number below 2 ^ n is the number of the set that it stands for.
abbrev pub NumbersAreSets : Type 0
NumbersAreSets = (n x : ℕ) → x < 2 ^ n → number n (holds x) ≡ x

-- The part of a set below n has a number below 2 ^ n, and that number stands for it.
abbrev pub SetsAreNumbers : Type 0
SetsAreNumbers = (n : ℕ) (X : Set) → (number n X < 2 ^ n) × (holds (number n X) ≡ below n X)

-- Every station below n passes the test.
abbrev pub every : ℕ → Set → Bool
every zero X = true
every (suc n) X = every n X && X n

-- How many stations below n are in X.
abbrev pub tally : ℕ → Set → ℕ
tally zero X = 0
tally (suc n) X = tally n X + (if X n then 1 else 0)

-- The stations that are not in X.
abbrev pub outside : Set → Set
outside X j = not (X j)

-- The stations of X that are not in Y.
abbrev pub without : Set → Set → Set
without X Y j = X j && not (Y j)

-- The stations of X and those of Y.
abbrev pub either : Set → Set → Set
either X Y j = X j || Y j

-- Station i alone.
abbrev pub only : ℕ → Set
only i j = j == i

-- No station below n is in X and not in Y, as a test.
abbrev pub inside : ℕ → Set → Set → Bool
inside n X Y = every n (outside (without X Y))

-- Each station below n is in X, Y or Z, as a test.
abbrev pub covers : ℕ → Set → Set → Set → Bool
covers n X Y Z = every n (either X (either Y Z))

-- Each station below n that is in X is in Y.
abbrev pub Part : ℕ → Set → Set → Type 0
Part n X Y = (j : ℕ) → j < n → X j ≡ true → Y j ≡ true

-- Each station below n is in X, Y or Z.
abbrev pub Cover : ℕ → Set → Set → Set → Type 0
Cover n X Y Z = (j : ℕ) → j < n → (X j || Y j || Z j) ≡ true

-- Some station below n is in X.
abbrev pub Some : ℕ → Set → Type 0
Some n X = (j : ℕ) × (j < n) × (X j ≡ true)
