-- What is proved of calls as bytes: they are read in one way only.
use Rattle.std.specs.Prelude.{◌≡◌, ℕ, List}
use Rattle.calls.specs.declared.call.Call.{Call}
use Rattle.calls.specs.Format.{encodings, BreakAt}

-- Bytes are the bytes of one row of calls at most.
abbrev pub CallsInOneWay : Type 0
CallsInOneWay = (calls others : List Call) → encodings calls ≡ encodings others → calls ≡ others

-- Bytes that break somewhere are no calls.
abbrev pub BrokenAreNoCalls : Type 0
BrokenAreNoCalls = (calls : List Call) (bytes : List ℕ) (place : ℕ) → BreakAt place bytes → encodings calls ≡ bytes → ⊥

-- Bytes break at one place at most.
abbrev pub BreakInOnePlace : Type 0
BreakInOnePlace = (bytes : List ℕ) (j k : ℕ) → BreakAt j bytes → BreakAt k bytes → j ≡ k
