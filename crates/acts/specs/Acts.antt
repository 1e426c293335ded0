-- Acts of the program, read as the model's, and as numbers.
use Rattle.std.specs.Prelude.{ℕ}
use Rattle.agreement.specs.Sets.{number as set_number}
use Rattle.agreement.specs.Station.{bit, opening, joining, admitting, closing, deciding}
use Rattle.agreement.specs.Station as model
use Rattle.acts.specs.Values.{number, values}
use Rattle.acts.specs.declared.act.Act.{Act}
use Rattle.acts.specs.declared.act.Act.TheVariants.{Open, Join, Admit, Close, Decide}

-- What is done.
abbrev pub act_of : Act → model.Act
act_of (Open σ v) = opening σ (number v)
act_of (Join σ v) = joining σ (number v)
act_of (Admit σ v) = admitting σ (number v)
act_of (Close σ x) = closing σ (values x)
act_of (Decide b) = deciding (bit b)

-- An act in numbers: its rule, its stage or 0, and its value. For a proposal set that is 1 for 0, 2 for 1 and 4 for blank,
-- added.
abbrev pub numbers : model.Act → ℕ × ℕ × ℕ
numbers (opening σ v) = (1, σ, v)
numbers (joining σ v) = (2, σ, v)
numbers (admitting σ v) = (3, σ, v)
numbers (closing σ X) = (4, σ, set_number 3 X)
numbers (deciding b) = (5, 0, b)
