-- What calls and questions answer.
use Rattle.std.specs.Prelude.{ℕ, if◌then◌else◌, ◌&&◌, nat_lt, Option, Some, None, Result, Ok, Err}
use Rattle.std.specs.Option.{option_or}
use Rattle.agreement.specs.Station.{Setting, size}
use Rattle.agreement.specs.Rig.{Answer, refused}
use Rattle.rig.specs.declared.fault.CallFault.{CallFault}
use Rattle.rig.specs.declared.fault.CallFault.TheVariants.{NoStation, Guest, NoGrading}
use Rattle.rig.specs.Faults.{number}

-- A result as the model's answer: a fault is a refusal with its number.
abbrev pub answer : {A : Type 0} → (A → Answer) → Result A CallFault → Answer
answer f (Ok x) = f x
answer f (Err e) = refused (number e)

-- Why a call for an own station is refused.
abbrev pub station_fault : Setting → ℕ → Option CallFault
station_fault g i = if nat_lt i (size g.rules) then (if g.guest i then Some Guest else None) else Some NoStation

-- Why the question for a grading is refused.
abbrev pub grading_fault : Setting → ℕ → ℕ → ℕ → Option CallFault
grading_fault g i round half =
    option_or (station_fault g i) (if nat_lt round g.rounds && nat_lt half 2 then None else Some NoGrading)
