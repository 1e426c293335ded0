-- What two lists of sets must be to make a rule.
use Rattle.std.specs.Prelude.{◌≡◌, ℕ, ◌^◌, ◌<◌, ◌≤◌, Bool, true, false, List, length, Some, None, Option, All, IsTrue, slice_index}
use Rattle.agreement.specs.Sets.{covers}
use Rattle.stations.specs.declared.StationSet.{StationSet}
use Rattle.faults.specs.declared.fault.Three.{Three}
use Rattle.stations.specs.Members.{members}
use Rattle.faults.specs.Rules.{within}

-- The set at a place of a list.
abbrev pub at : List StationSet → ℕ → StationSet
at L i = slice_index L i

-- No set has a station from n on: each number is below 2 ^ n.
abbrev pub AllBelow : ℕ → List StationSet → Type 0
AllBelow n L = All (λ x. x < 2 ^ n) L

-- One to eight sets of stations below n.
abbrev pub Proper : ℕ → List StationSet → Type 0
Proper n L = (1 ≤ length L) × (length L ≤ 8) × AllBelow n L

-- Each narrow set lies inside a wide one.
pub record Nested (n : ℕ) (N W : List StationSet) : Type 0 where
  pub each : All (λ x. IsTrue (within n W (members x))) N

-- The narrow set at i and the wide sets at j and k together hold every station.
abbrev pub covered : ℕ → List StationSet → List StationSet → ℕ → ℕ → ℕ → Bool
covered n N W i j k = covers n (members (at N i)) (members (at W j)) (members (at W k))

-- No narrow and two wide sets hold every station.
pub record Apart (n : ℕ) (N W : List StationSet) : Type 0 where
  pub none : (i j k : ℕ) → i < length N → j < length W → k < length W → covered n N W i j k ≡ false

-- The first triple of places, in the order narrow, first wide, second wide, whose sets hold every station.
pub record FirstThree (n : ℕ) (N W : List StationSet) (t : Three) : Type 0 where
  pub narrow_there : t.narrow < length N
  pub first_there : t.wide.0 < length W
  pub second_there : t.wide.1 < length W
  pub hold_all : covered n N W t.narrow t.wide.0 t.wide.1 ≡ true
  pub no_narrow_before : (i j k : ℕ) → i < t.narrow → j < length W → k < length W → covered n N W i j k ≡ false
  pub no_first_before : (j k : ℕ) → j < t.wide.0 → k < length W → covered n N W t.narrow j k ≡ false
  pub no_second_before : (k : ℕ) → k < t.wide.1 → covered n N W t.narrow t.wide.0 k ≡ false

-- The first triple of places whose sets hold every station, or none where no triple is so.
abbrev pub CoverFound : ℕ → List StationSet → List StationSet → Option Three → Type 0
CoverFound n N W None = Apart n N W
CoverFound n N W (Some t) = FirstThree n N W t
