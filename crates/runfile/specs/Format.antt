-- The format of a run file: its contents and its bodies.
use Rattle.std.specs.Prelude.{◌≡◌, ℕ, zero, suc, ◌+◌, ◌*◌, ◌<◌, ◌≤◌, List, length, take, drop}
use Rattle.rulebody.specs.Format.{byte, word}

-- The kind and the length that an entry of the contents says: three bytes.
abbrev pub kind_of : List ℕ → ℕ → ℕ
kind_of file k = byte file (3 * k)

abbrev pub length_of : List ℕ → ℕ → ℕ
length_of file k = word file (3 * k + 1)

-- The place of a body: after the twelve bytes of contents and the bodies before it.
abbrev pub place_of : List ℕ → ℕ → ℕ
place_of file zero = 12
place_of file (suc k) = place_of file k + length_of file k

-- A body: the part of the file from its place on that has its length.
abbrev pub body_of : List ℕ → ℕ → List ℕ
body_of file k = take (length_of file k) (drop (place_of file k) file)

-- There is room for the contents, and the file is not too large.
abbrev pub HasSize : List ℕ → Type 0
HasSize file = (12 ≤ length file) × (length file ≤ 40000)

-- The kinds are 1 to 4, in this order: a rule, stations, a coin, calls.
abbrev pub HasKind : List ℕ → ℕ → Type 0
HasKind file k = kind_of file k ≡ k + 1

abbrev pub HasKinds : List ℕ → Type 0
HasKinds file = (k : ℕ) → k < 4 → HasKind file k

-- The lengths add up to the file.
abbrev pub HasLengths : List ℕ → Type 0
HasLengths file = place_of file 4 ≡ length file

-- The file has four bodies.
abbrev pub HasBodies : List ℕ → Type 0
HasBodies file = HasSize file × HasKinds file × HasLengths file

-- An entry is the first with a wrong kind.
abbrev pub FirstWrongKind : List ℕ → ℕ → Type 0
FirstWrongKind file k = (k < 4) × (HasKind file k → ⊥) × ((j : ℕ) → j < k → HasKind file j)
