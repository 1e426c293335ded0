-- Cases worked by hand, in one table.
use Rattle.std.specs.Prelude.{◌≡◌, ℕ, Bool, ◌==◌, List, [], ◌∷◌, Some, None, Option}
use Rattle.std.specs.List.{list_any}
use Rattle.agreement.specs.Station.{Grading, grading_of}
use Rattle.faults.specs.declared.fault.Fault.{Fault}
use Rattle.faults.specs.declared.fault.Fault.TheVariants.{NarrowBeyondWide, Cover, CoveredBy}
use Rattle.faults.specs.Made.{ThresholdFault, ListedFault}

-- What is worked, and what it comes to. Making a threshold rule of n, s and a, or a listed rule of n, the wide and the
-- narrow sets, each by its number, comes to the fault, or to none where the rule is made. Grading a proposal set of these
-- values comes to a grading; blank is 2.
pub data Case : Type 0 where
  threshold : ℕ → ℕ → ℕ → Option Fault → Case
  lists : ℕ → List ℕ → List ℕ → Option Fault → Case
  proposed : List ℕ → Grading → Case

-- The set of the listed values.
abbrev pub set_of : List ℕ → ℕ → Bool
set_of values v = list_any (λ w. v == w) values

-- The case comes to what it says.
abbrev pub Comes : Case → Type 0
Comes (threshold n s a fault) = ThresholdFault n s a fault
Comes (lists n W N fault) = ListedFault n W N fault
Comes (proposed values grading) = grading_of (set_of values) ≡ grading

-- The table.
abbrev pub table : List Case
table =
    threshold 4 1 1 None ∷ threshold 3 1 1 (Some Cover) ∷ threshold 7 3 0 None ∷ threshold 7 3 1 (Some Cover)
    ∷ threshold 7 1 2 (Some NarrowBeyondWide)
    ∷ lists 4 (3 ∷ 12 ∷ []) (3 ∷ []) (Some (CoveredBy (record { narrow = 0; wide = (0, 1) })))
    ∷ lists 5 (3 ∷ 4 ∷ 8 ∷ []) (8 ∷ []) None
    ∷ proposed (1 ∷ []) (Some 1, 2) ∷ proposed (1 ∷ 2 ∷ []) (Some 1, 1) ∷ proposed (0 ∷ 1 ∷ []) (None, 0) ∷ []

-- Every case of a table comes to what it says.
abbrev pub AllCome : List Case → Type 0
AllCome [] = Unit {0}
AllCome (x ∷ xs) = Comes x × AllCome xs
