-- Gradings of the program, read as the model's.
use Rattle.std.specs.Prelude.{ℕ, Bool, Option, option_map}
use Rattle.agreement.specs.Station.{bit, Grading}
use Rattle.acts.specs.declared.value.Grade.{Grade}
use Rattle.acts.specs.declared.value.Grade.TheVariants.{Zero, One, Two}

-- A grade's number.
abbrev pub grade_number : Grade → ℕ
grade_number Zero = 0
grade_number One = 1
grade_number Two = 2

-- A grading in numbers.
abbrev pub in_numbers : Option Bool × Grade → Grading
in_numbers x = (option_map bit x.0, grade_number x.1)
