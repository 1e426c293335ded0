-- Values and sets of values of the program, read as the model's numbers and tests on numbers.
use Rattle.std.specs.Prelude.{ℕ, Bool, false, if◌then◌else◌, ◌||◌, ◌==◌, nat_le, Some, None, Option}
use Rattle.agreement.specs.Station.{bit}
use Rattle.acts.specs.declared.value.Value.{Value}
use Rattle.acts.specs.declared.value.Value.TheVariants as value
use Rattle.acts.specs.declared.value.ValueSet.{ValueSet}
use Rattle.acts.specs.declared.value.ValueSet.TheVariants.{Empty, Blank, Bit, BitAndBlank, Bits, All}

-- A value's number.
abbrev pub number : Value → ℕ
number value.Zero = 0
number value.One = 1
number value.Blank = 2

-- A bit as a value.
abbrev pub value_of_bit : Bool → Value
value_of_bit b = if b then value.One else value.Zero

-- The value with a number, if there is one.
abbrev pub value_of_number : ℕ → Option Value
value_of_number n =
    if n == 0 then Some value.Zero else if n == 1 then Some value.One else if n == 2 then Some value.Blank else None

-- The values of a set of the program, as a test on numbers.
abbrev pub values : ValueSet → ℕ → Bool
values Empty v = false
values Blank v = v == 2
values (Bit b) v = v == bit b
values (BitAndBlank b) v = (v == bit b) || (v == 2)
values Bits v = (v == 0) || (v == 1)
values All v = nat_le v 2

-- The values that pass a test, and one more.
abbrev pub and_value : (ℕ → Bool) → ℕ → ℕ → Bool
and_value P v w = P w || w == v
