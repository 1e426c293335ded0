use Rattle.std.proofs.Common.{rules, subst, ◌≡◌}
use Rattle.agreement.specs.Sets.{Set}
use Rattle.agreement.specs.Station.{is_own}
use Rattle.rig.specs.Rigs.{setting}
use Rattle.rig.specs.Settings.{between}
use Rattle.rig.proofs.rig.Rig.lose.Goals as goal

pub returns-clause-step : goal.returns-clause-step
returns-clause-step g c =
    let r = c.args.self.now in
    let m = c.in_ok-message.message in
    let e : c.is_between.result ≡ between (is_own (setting r)) m
    = subst (λ (X : Set). c.is_between.result ≡ between X m) c.own-own.ensures c.is_between.ensures in
    search (rules, e)
