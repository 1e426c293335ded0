use Rattle.std.proofs.Common.{◌≡◌, rules, Some as some, None as none}
use Rattle.agreement.specs.Station.{bit}
use Rattle.station.specs.Stations.{read}
use Rattle.station.specs.Turns.{rules_of}
use Rattle.station.proofs.Duties.{none_more, due_first, due_deciding, none_due, none_beyond}
use Rattle.station.proofs.Searches.{first_decided}
use Rattle.station.proofs.station.Station.due.Goals as goal

pub loop-stage-preserved : goal.loop-stage-preserved
loop-stage-preserved g c coin =
    let G = rules_of (g.F.FaultRule.families c.args.rule.now) c.args.rounds.count coin in
    none_more G (read c.args.self.now) c.loop-stage.stage (c.loop-stage.invariant coin)
    (rw c.in_default.is at c.due_in.ensures c.args.rounds.count coin (search rules))

pub returns : goal.returns
returns g c coin =
    let f = g.F.FaultRule.families c.args.rule.now in
    let n = c.args.rounds.count in
    let G = rules_of f n coin in
    let s = c.args.self.now in
    due_deciding G (read s) (bit c.in_ok-bit.bit)
    (none_beyond G (read s) c.loop-stage.stage (c.loop-stage.invariant coin) (search rules))
    (first_decided f s n coin (some c.in_ok-bit.bit) (rw c.in_ok-bit.was at c.first_to_decide.ensures))

pub returns-in-Some : goal.returns-in-Some
returns-in-Some g c coin =
    let G = rules_of (g.F.FaultRule.families c.args.rule.now) c.args.rounds.count coin in
    due_first G (read c.args.self.now) c.loop-stage.stage _ (c.loop-stage.invariant coin)
    (rw c.in-Some.is at c.due_in.ensures c.args.rounds.count coin (search rules))

pub returns-in_err-bit : goal.returns-in_err-bit
returns-in_err-bit g c coin =
    let f = g.F.FaultRule.families c.args.rule.now in
    let n = c.args.rounds.count in
    let G = rules_of f n coin in
    let s = c.args.self.now in
    let none_found : c.from_residual.result ≡ none = search rules in
    let beyond = none_beyond G (read s) c.loop-stage.stage (c.loop-stage.invariant coin) (search rules) in
    rw none_found
    (none_due G (read s) beyond (first_decided f s n coin none (rw c.in_err-bit.was at c.first_to_decide.ensures)))
