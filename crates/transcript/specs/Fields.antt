-- Fields of the program, read as the text's.
use Rattle.std.specs.Prelude.{ℕ, ◌≤◌, List, ◌∷◌, length}
use Rattle.transcript.specs.Text.{word, number, text}
use Rattle.transcript.specs.Text as model
use Rattle.transcript.specs.declared.field.Field.{Field}
use Rattle.transcript.specs.declared.field.Field.TheVariants.{Word, Number}

-- What is written.
abbrev pub field_of : Field → model.Field
field_of (Word w) = word w.now
field_of (Number n) = number n

-- A space, and then the field.
abbrev pub spaced : Field → List ℕ
spaced x = 32 ∷ text (field_of x)

-- A field of three characters at most.
abbrev pub IsShort : Field → Type 0
IsShort x = length (text (field_of x)) ≤ 3
