use Rattle.std.proofs.Common.{rules, ◌≡◌, None as none, get_or}
use Rattle.std.proofs.lemmas.List.{get_or_default}
use Rattle.station.specs.Stages.{new_stage, opening_act}
use Rattle.station.proofs.Searches.{first_closed}
use Rattle.station.proofs.station.Station.due_in.Goals.{else-is_current-via-else-is_current, else-is_current-via-then-is_current+in-None-1}
use Rattle.station.proofs.station.Station.due_in.Goals as goal

pub returns-then-is_current-2 : goal.returns-then-is_current-2
returns-then-is_current-2 g c rounds coin h =
    let s = c.args.self.now in
    let d = c.index-self-stage.result in
    let t = get_or s.stages c.args.stage d in
    let is_open : opening_act t c.args.stage ≡ none = elim c.else-is_current.branch [
      | else-is_current-via-else-is_current w ↦ search rules
      | else-is_current-via-then-is_current+in-None-1 w ↦ search rules
    ] in
    let f = g.F.FaultRule.families c.args.rule.now in
    first_closed f (g.met.F.FaultRule.laws c.args.rule.now) s c.args.stage rounds coin t
    (get_or_default s.stages c.args.stage d new_stage (search rules)) (search rules) h is_open
    (rw c.in_default.is at c.serving.ensures) _ c.closing.ensures
