-- What is entered before a rig is opened.
use Rattle.std.specs.Prelude.{ℕ, if◌then◌else◌, ◌&&◌, ◌==◌, nat_le, nat_lt, Option, Some, None}
use Rattle.agreement.specs.Sets.{Set, either, only, without}
use Rattle.rig.specs.declared.fault.SetupFault.{SetupFault}
use Rattle.rig.specs.declared.fault.SetupFault.TheVariants.{Rounds, Station, Bit}

-- The fault of a setup for so many rounds.
abbrev pub new_fault : ℕ → Option SetupFault
new_fault rounds = if nat_le 1 rounds && nat_le rounds 8 then None else Some Rounds

-- The fault of an entry for a station, by the station's number.
abbrev pub guest_fault : ℕ → Option SetupFault
guest_fault i = if nat_lt i 10 then None else Some Station

-- The first fault of an opening bit, by its station and value.
abbrev pub opening_fault : ℕ → ℕ → Option SetupFault
opening_fault i b = if nat_lt i 10 then (if nat_le b 1 then None else Some Bit) else Some Station

-- Those who open with 1, once a station's bit is entered.
abbrev pub with_opening : ℕ → ℕ → Set → Set
with_opening i b X = if b == 1 then either X (only i) else without X (only i)
