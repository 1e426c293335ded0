-- The last lines, by what a rig came to.
use Rattle.std.specs.Prelude.{ℕ, zero, suc, List, [], ◌++◌, slice_index_or, Option, Some, None, option_map}
use Rattle.agreement.specs.Station.{bit}
use Rattle.rig.specs.declared.outcome.StationOutcome.{StationOutcome}
use Rattle.rig.specs.declared.outcome.Outcome.{Outcome}
use Rattle.transcript.specs.Lines.{station_line, missing_line}

-- The line of a station, if something is noted of it.
abbrev pub noted_line : ℕ → Option StationOutcome → List ℕ
noted_line i None = []
noted_line i (Some o) = station_line i o.stage (option_map bit o.decision)

-- The lines of the stations below k of which something is noted.
abbrev pub noted_lines : List (Option StationOutcome) → ℕ → List ℕ
noted_lines os zero = []
noted_lines os (suc k) = noted_lines os k ++ noted_line k (slice_index_or os k None)

abbrev pub outcome_lines : Outcome → List ℕ
outcome_lines o = noted_lines o.stations 10 ++ missing_line o.missing
