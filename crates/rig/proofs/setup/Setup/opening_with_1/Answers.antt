use Rattle.std.proofs.Common.{ℕ, min, ap, ◌∙◌}
use Rattle.agreement.specs.Sets.{Set, below, without}
use Rattle.stations.specs.Members.{members}
use Rattle.rig.proofs.Sets.{cut}
use Rattle.rig.proofs.setup.Setup.opening_with_1.Goals as goal

pub returns : goal.returns
returns g c =
    let X = without (members c.args.self.now.openings) (members c.args.self.now.guests) in
    ap (λ (Y : Set). below 10 Y) c.up_to.ensures
    ∙ ap (λ (Y : Set). below 10 (below (min c.size.result 16) Y)) c.difference.ensures.stations
    ∙ ap (λ (n : ℕ). below 10 (below (min n 16) X)) c.size.ensures
    ∙ cut _ X (g.met.F.FaultRule.sized c.args.rule.now).1
