-- The format of a rule body.
use Rattle.std.specs.Prelude.{◌≡◌, ℕ, ◌+◌, ◌*◌, ◌<◌, ◌≤◌, List, [], ◌%◌, length, slice_index, slice_index_or}
use Rattle.stations.specs.declared.StationSet.{StationSet}
use Rattle.faults.specs.Lists.{at}

-- The byte at a place.
abbrev pub byte : List ℕ → ℕ → ℕ
byte bytes k = slice_index bytes k

-- The two-byte number at a place, low byte first.
abbrev pub word : List ℕ → ℕ → ℕ
word bytes k = byte bytes k + 256 * byte bytes (k + 1)

-- A threshold rule: the code 1, then n, s and a.
abbrev pub IsThreshold : List ℕ → Type 0
IsThreshold bytes = (length bytes ≡ 4) × (byte bytes 0 ≡ 1)

-- A listed rule: the code 2, then n, the lengths of the wide and the narrow list, and that many sets of two bytes,
-- none with a bit above 9.
abbrev pub IsListed : List ℕ → Type 0
IsListed bytes =
    (4 ≤ length bytes) × (byte bytes 0 ≡ 2) × (length bytes ≡ 4 + 2 * (byte bytes 2 + byte bytes 3))
    × ((k : ℕ) → k < byte bytes 2 + byte bytes 3 → word bytes (4 + 2 * k) < 1024)

-- An odd number of bytes.
abbrev pub IsOdd : ℕ → Type 0
IsOdd n = n % 2 ≡ 1

-- The pairs are the bytes two by two.
abbrev pub ArePairs : List (List ℕ) → List ℕ → Type 0
ArePairs pairs bytes =
    (length bytes ≡ 2 * length pairs) × ((i : ℕ) → i < length pairs → word (slice_index_or pairs i []) 0 ≡ word bytes (2 * i))

-- The list has the sets that stand from a place on.
abbrev pub SetsAt : List ℕ → ℕ → ℕ → List StationSet → Type 0
SetsAt bytes from count L = (length L ≡ count) × ((i : ℕ) → i < count → at L i ≡ word bytes (from + 2 * i))
