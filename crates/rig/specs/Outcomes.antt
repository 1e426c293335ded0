-- What a rig came to.
use Rattle.std.specs.Prelude.{◌≡◌, ℕ, ◌+◌, ◌*◌, ◌<◌, Bool, true, false, if◌then◌else◌, [], List, nat_lt, slice_index_or, Some, None, Option, option_map}
use Rattle.agreement.specs.Sets.{Set}
use Rattle.agreement.specs.Station.{Setting, is_own, bit}
use Rattle.agreement.specs.Station as model
use Rattle.agreement.specs.Rig as rig
use Rattle.acts.specs.Gradings.{in_numbers}
use Rattle.acts.specs.declared.value.Grade.{Grade}
use Rattle.rig.specs.declared.outcome.StationOutcome.{StationOutcome}
use Rattle.rig.specs.declared.outcome.Outcome.{Outcome}

-- The grading that is noted for a round and one of its halves.
abbrev pub noted : List (List (Option (Option Bool × Grade))) → ℕ → ℕ → Option model.Grading
noted gradings round half = option_map in_numbers (slice_index_or (slice_index_or gradings round []) half None)

-- The gradings of the rounds before an end are noted, and no other.
abbrev pub NotedBefore : ℕ → model.Station → List (List (Option (Option Bool × Grade))) → Type 0
NotedBefore end s gradings =
    (round half : ℕ) → half < 2
    → noted gradings round half ≡ (if nat_lt round end then s.grading (4 * round + 2 * half + 1) else None)

-- What an own station came to, in so many rounds.
pub record TellsStation (rounds : ℕ) (s : model.Station) (o : StationOutcome) : Type 0 where
  pub stage : o.stage ≡ s.stage
  pub gradings : NotedBefore rounds s o.gradings
  pub decision : option_map bit o.decision ≡ s.decision

-- Something is noted of a station exactly where it is an own one.
abbrev pub TellsIfOwn : Bool → ℕ → model.Station → Option StationOutcome → Type 0
TellsIfOwn true rounds s (Some o) = TellsStation rounds s o
TellsIfOwn true rounds s None = ⊥
TellsIfOwn false rounds s o = o ≡ None

-- So it is of each station.
abbrev pub TellsAll : Set → ℕ → (ℕ → model.Station) → List (Option StationOutcome) → Type 0
TellsAll own rounds W os = (i : ℕ) → TellsIfOwn (own i) rounds (W i) (slice_index_or os i None)

-- What a rig came to: its own stations, and its counts.
pub record Tells {N : Type 0} (g : Setting) (r : rig.Rig N) (o : Outcome) : Type 0 where
  pub stations : TellsAll (is_own g) g.rounds r.station o.stations
  pub posted : o.posted ≡ r.posted
  pub missing : o.missing ≡ r.missing
