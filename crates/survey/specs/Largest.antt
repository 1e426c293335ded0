-- The largest sets that a family tolerates, and lists of sets in order.
use Rattle.std.specs.Prelude.{◌≡◌, ℕ, ◌^◌, ◌<◌, Bool, true, not, ◌&&◌, ◌||◌, List, All, AllPairs, Contains}
use Rattle.agreement.specs.Sets.{Set, Part, holds, either, only, every}
use Rattle.agreement.specs.Families.{Families}
use Rattle.stations.specs.declared.StationSet.{StationSet}
use Rattle.faults.specs.declared.rule.Sense.{Sense}
use Rattle.faults.specs.Senses.{family}

-- X is tolerable, and every tolerable set around X is no larger: none properly contains it.
abbrev pub Largest : Families → Sense → Set → Type 0
Largest f sense X =
    (family f sense X ≡ true) × ((Y : Set) → family f sense Y ≡ true → Part f.n X Y → Part f.n Y X)

-- Whether X has station i, or is not tolerable with it.
abbrev pub cannot_gain : Families → Sense → Set → ℕ → Bool
cannot_gain f sense X i = X i || not (family f sense (either X (only i)))

-- Whether no set with one station more than X is tolerable.
abbrev pub cannot_grow : Families → Sense → Set → Bool
cannot_grow f sense X = every f.n (cannot_gain f sense X)

-- Whether X is tolerable, and cannot grow by one station.
abbrev pub maximal : Families → Sense → Set → Bool
maximal f sense X = family f sense X && cannot_grow f sense X

-- The list has exactly the sets with a number below k that keep P, each once, in ascending order of their numbers.
pub record Lists (k : ℕ) (P : ℕ → Type 0) (L : List StationSet) : Type 0 where
  pub under : All (λ x. x < k) L
  pub keep : All P L
  pub ascend : AllPairs (λ x y. x < y) L
  pub all : (x : ℕ) → x < k → P x → Contains L x

-- The list has exactly the largest sets of a sense.
abbrev pub AllLargest : Families → Sense → List StationSet → Type 0
AllLargest f sense L = Lists (2 ^ f.n) (λ x. Largest f sense (holds x)) L
