-- Lines of text, and a buffer that begins with one.
use Rattle.std.specs.Prelude.{ℕ, List, [], ◌∷◌, ◌++◌, length, drop}
use Rattle.std.specs.Fmt.{decimal}

-- A field of a line: a word, or a number.
pub data Field : Type 0 where
  word : List ℕ → Field
  number : ℕ → Field

-- A field as text: numbers are decimal.
abbrev pub text : Field → List ℕ
text (word w) = w
text (number n) = decimal n

-- A line: its fields, one space between each two, and a line feed at the end.
abbrev pub line_of : List Field → List ℕ
line_of [] = 10 ∷ []
line_of (x ∷ []) = text x ++ (10 ∷ [])
line_of (x ∷ (y ∷ xs)) = text x ++ (32 ∷ line_of (y ∷ xs))

-- A buffer once a text is put at its beginning: the text, and then what stood there.
abbrev pub begun_with : List ℕ → List ℕ → List ℕ
begun_with t buffer = t ++ drop (length t) buffer
