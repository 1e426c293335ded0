-- Calls as bytes.
use Rattle.std.specs.Prelude.{◌≡◌, ℕ, ◌<◌, List, [], ◌∷◌, length, take, drop, Vec, Some, None, Option, Ok, Err, Result}
use Rattle.std.specs.List.{flat_map}
use Rattle.calls.specs.declared.call.Call.{Call}
use Rattle.calls.specs.declared.call.Call.TheVariants.{Turn, Deliver, Send, Lose}
use Rattle.calls.specs.declared.fault.ReadFault.{ReadFault}
use Rattle.calls.specs.declared.fault.ReadFault.TheVariants.{Broken, Memory}

-- The bytes of a call: the ASCII letter t, d, f or l, and what it says.
abbrev pub encoding : Call → List ℕ
encoding (Turn station) = 116 ∷ station ∷ []
encoding (Deliver hint) = 100 ∷ hint ∷ []
encoding (Send m) = 102 ∷ m.sender ∷ m.addressee ∷ m.kind ∷ m.stage ∷ m.value ∷ []
encoding (Lose hint) = 108 ∷ hint ∷ []

-- The bytes of calls, one after another.
abbrev pub encodings : List Call → List ℕ
encodings calls = flat_map encoding calls

-- Bytes begin with a call.
abbrev pub BeginWith : Call → List ℕ → Type 0
BeginWith c bytes = take (length (encoding c)) bytes ≡ encoding c

-- Bytes begin with a call, whichever it is.
abbrev pub HaveCall : List ℕ → Type 0
HaveCall bytes = (c : Call) × BeginWith c bytes

-- The call with which bytes begin; none where they begin with no call.
abbrev pub FirstCall : List ℕ → Option Call → Type 0
FirstCall bytes (Some c) = BeginWith c bytes
FirstCall bytes None = (c : Call) → BeginWith c bytes → ⊥

-- Before the place there are whole calls, and at the place there is something else.
abbrev pub BreakAt : ℕ → List ℕ → Type 0
BreakAt place bytes =
    (place < length bytes) × ((calls : List Call) × (take place bytes ≡ encodings calls))
    × ((c : Call) → BeginWith c (drop place bytes) → ⊥)

-- The calls that bytes are; or the place of the first that is unknown or cut off; or that memory is short, where there is a
-- call to keep.
abbrev pub CallsRead : {Z : Type 0} → List ℕ → Result (Vec Call Z) ReadFault → Type 0
CallsRead bytes (Ok calls) = encodings calls.items ≡ bytes
CallsRead bytes (Err (Broken place)) = BreakAt place bytes
CallsRead bytes (Err Memory) = HaveCall bytes
