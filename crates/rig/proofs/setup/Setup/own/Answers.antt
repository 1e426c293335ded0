use Rattle.std.proofs.Common.{ℕ, min, ap, ◌∙◌}
use Rattle.agreement.specs.Sets.{Set, below, outside}
use Rattle.stations.specs.Members.{members}
use Rattle.rig.proofs.Sets.{cut}
use Rattle.rig.proofs.setup.Setup.own.Goals as goal

pub returns : goal.returns
returns g c =
    let X = outside (members c.args.self.now.guests) in
    ap (λ (Y : Set). below 10 Y) c.rest.ensures
    ∙ ap (λ (n : ℕ). below 10 (below (min n 16) X)) c.size.ensures
    ∙ cut _ X (g.met.F.FaultRule.sized c.args.rule.now).1
