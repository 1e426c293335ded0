use Rattle.std.proofs.Common.{ℕ, ◌<◌, Bool}
use Rattle.station.specs.Stations.{read}
use Rattle.station.specs.Turns.{rules_of}
use Rattle.station.specs.Duties.{NoneOf}
use Rattle.station.proofs.station.Station.due.Given as goal

abbrev pub invariant-loop-stage : goal.invariant-loop-stage
invariant-loop-stage g l =
    (coin : ℕ → Bool) (τ : ℕ) → τ < l.stage
    → NoneOf (rules_of (g.F.FaultRule.families l.rule) l.fn.rounds.count coin) (read l.self) τ
