use Rattle.std.proofs.Common.{◌≡◌, ◌+◌, length, Some, Ok, Err, Global, refl, arith, rules}
use Rattle.runfile.specs.Format.{body_of, HasBodies}
use Rattle.runfile.specs.Coins.{CoinRead}
use Rattle.runfile.specs.Rules.{RuleRead}
use Rattle.runfile.specs.Parts.{RulePart, SaysStations, StationsPart, CoinPart, CallsPart}
use Rattle.runfile.specs.Files.{GoodBefore}
use Rattle.runfile.proofs.Refusals.{good_stations, good_coin, first_end, second_end, third_end, refused}
use Rattle.runfile.proofs.file.RunFile.read.Goals as goal

pub returns-in_err-rule : goal.returns-in_err-rule
returns-in_err-rule c =
    let file = c.args.file.now in
    let fault = c.in_err-rule.field-0.0 in
    let e : c.from_residual-in_err-rule.result ≡ Err fault = search rules in
    let has : HasBodies file = search rules in
    let part : RulePart (body_of file 0) 12 (Err fault) = search rules in
    rw e (refused file 0 12 fault (omega arith) refl has part)

pub returns-in_err-network : goal.returns-in_err-network
returns-in_err-network c =
    let file = c.args.file.now in
    let fault = c.in_err-network.field-0.0 in
    let e : c.from_residual-in_err-network.result ≡ Err fault = search rules in
    let has : HasBodies file = search rules in
    let at = 12 + length c.in-Rule-Stations-Coin-Calls.rule_body.now in
    let rule : RuleRead (body_of file 0) (Ok c.in_ok-rule.rule) = search rules in
    let part : StationsPart (body_of file 1) at (Err fault) = search rules in
    rw e (refused file 1 at fault (omega arith) (search (rules, first_end file has)) (has, (c.in_ok-rule.rule, rule)) part)

pub returns-in_err-coin : goal.returns-in_err-coin
returns-in_err-coin c =
    let file = c.args.file.now in
    let fault = c.in_err-coin.field-0.0 in
    let e : c.from_residual-in_err-coin.result ≡ Err fault = search rules in
    let has : HasBodies file = search rules in
    let at = 12 + length c.in-Rule-Stations-Coin-Calls.rule_body.now + length c.in-Rule-Stations-Coin-Calls.stations_body.now in
    let rule : RuleRead (body_of file 0) (Ok c.in_ok-rule.rule) = search rules in
    let stations : SaysStations (body_of file 1) c.in_ok-network.network c.in_ok-network.setup = search rules in
    let before = good_stations (body_of file 1) c.in_ok-network.network c.in_ok-network.setup stations in
    let good : GoodBefore 2 file = ((has, (c.in_ok-rule.rule, rule)), before) in
    let part : CoinPart (body_of file 2) at (Err fault) = search rules in
    rw e (refused file 2 at fault (omega arith) (search (rules, second_end file has)) good part)

pub returns-in_err-calls : goal.returns-in_err-calls
returns-in_err-calls c =
    let file = c.args.file.now in
    let fault = c.in_err-calls.field-0.0 in
    let e : c.from_residual-in_err-calls.result ≡ Err fault = search rules in
    let has : HasBodies file = search rules in
    let at = 12 + length c.in-Rule-Stations-Coin-Calls.rule_body.now + length c.in-Rule-Stations-Coin-Calls.stations_body.now
    + length c.in-Rule-Stations-Coin-Calls.coin_body.now in
    let rule : RuleRead (body_of file 0) (Ok c.in_ok-rule.rule) = search rules in
    let stations : SaysStations (body_of file 1) c.in_ok-network.network c.in_ok-network.setup = search rules in
    let coin : CoinRead (body_of file 2) (Some c.in_ok-coin.coin) = search rules in
    let before = good_stations (body_of file 1) c.in_ok-network.network c.in_ok-network.setup stations in
    let good : GoodBefore 3 file = (((has, (c.in_ok-rule.rule, rule)), before), good_coin (body_of file 2) c.in_ok-coin.coin coin) in
    let part : CallsPart {Z = Global} (body_of file 3) at (Err fault) = search rules in
    rw e (refused file 3 at fault (omega arith) (search (rules, third_end file has)) good part)
