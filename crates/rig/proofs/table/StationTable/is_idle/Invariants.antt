use Rattle.std.proofs.Common.{ℕ, ◌≡◌, ◌<◌, Bool, true}
use Rattle.agreement.specs.Station.{Idle}
use Rattle.station.specs.Turns.{rules_of}
use Rattle.rig.specs.Settings.{among}
use Rattle.rig.specs.Tables.{station_in}
use Rattle.rig.proofs.table.StationTable.is_idle.Given as goal

abbrev pub invariant-loop-station : goal.invariant-loop-station
invariant-loop-station g l =
    (coin : ℕ → Bool) (i : ℕ) → i < l.station → among l.own i ≡ true
    → Idle (rules_of (g.F.FaultRule.families l.rule) l.rounds.count coin) (station_in l.self i)
