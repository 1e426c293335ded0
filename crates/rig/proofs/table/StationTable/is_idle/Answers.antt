use Rattle.std.proofs.Common.{◌≡◌, ◌<◌, suc, true, sym, refl, subst, arith}
use Rattle.agreement.specs.Station.{Station, Idle}
use Rattle.agreement.proofs.Sets.{last_or}
use Rattle.station.specs.Turns.{rules_of}
use Rattle.rig.specs.Settings.{among}
use Rattle.rig.specs.Tables.{station_in}
use Rattle.rig.proofs.table.StationTable.is_idle.Goals as goal
use Rattle.rig.proofs.table.StationTable.is_idle.Goals.{else-is_among-via-then-is_among+else-not-is_idle, else-is_among-via-else-is_among}

pub returns-then-not-is_idle : goal.returns-then-not-is_idle
returns-then-not-is_idle g c coin = (
  λ e. cc,
  λ all.
      let G = rules_of (g.F.FaultRule.families c.args.rule.now) c.args.rounds.count coin in
      let own : among c.args.own c.loop-station.station ≡ true = sym c.if-is_among.ensures in
      (c.if-not-is_idle.ensures coin).1
      (subst (λ (s : Station). Idle G s) (sym c.record.ensures) (all c.loop-station.station own)),
)

pub loop-station-preserved : goal.loop-station-preserved
loop-station-preserved g c coin i h own =
    let G = rules_of (g.F.FaultRule.families c.args.rule.now) c.args.rounds.count coin in
    let T = c.args.self.now in
    let k = c.loop-station.station in
    let h' : i < suc k = omega (arith, h) in
    let here : among c.args.own k ≡ true → Idle G (station_in T k) = λ o. elim c.else-is_among.branch [
      | else-is_among-via-then-is_among+else-not-is_idle w ↦
          subst (λ (s : Station). Idle G s) w.record.ensures ((w.if-not-is_idle.ensures coin).0 refl)
      | else-is_among-via-else-is_among w ↦ cc (o, w.if-is_among.ensures)
    ] in
    last_or (λ j. among c.args.own j ≡ true → Idle G (station_in T j)) k i h' (λ l o. c.loop-station.invariant coin i l o) here own
