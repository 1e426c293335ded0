use Rattle.std.proofs.Common.{refl}
use Rattle.station.specs.Turns.{rules_of}
use Rattle.station.proofs.Turns.{can_do}
use Rattle.station.proofs.station.Station.turn.Goals as goal

pub perform-says-requires : goal.perform-says-requires
perform-says-requires g c =
    let coin = g.C.Coin.bits c.args.coin.now in
    let G = rules_of (g.F.FaultRule.families c.args.rule.now) c.args.rounds.count coin in
    can_do G c.args.self.now c.in_ok-act.act (c.in_ok-act.ensures coin) c.args.rounds.to_8

pub returns-clause-due : goal.returns-clause-due
returns-clause-due g c =
    let coin = g.C.Coin.bits c.args.coin.now in
    let G = rules_of (g.F.FaultRule.families c.args.rule.now) c.args.rounds.count coin in
    record {
      due = c.in_ok-act.ensures coin;
      state = c.perform-says.ensures.state G refl;
      says = c.perform-says.ensures.says;
    }
