use Rattle.std.proofs.Common.{sym, subst, ◌∙◌, eqb-true}
use Rattle.agreement.specs.Sets.{Set}
use Rattle.rig.specs.Rigs.{setting, view}
use Rattle.rig.specs.Tables.{AllIdle}
use Rattle.rig.proofs.Quiet.{quiet_if, quiet_counts, quiet_idle}
use Rattle.rig.proofs.rig.Rig.is_quiet.Goals as goal

pub returns-then-self-eq0 : goal.returns-then-self-eq0
returns-then-self-eq0 g c =
    let r = c.args.self.now in
    let net = g.N.Network.net in
    let idle = c.is_idle.ensures (g.C.Coin.bits r.coin) in (
      λ e. quiet_if net (setting r) (view r) (sym r.under_way_is ∙ c.if-self-eq0.true)
          (subst (λ (X : Set). AllIdle (setting r).rules X r.stations) c.own.ensures (idle.0 e)),
      λ q. idle.1 (subst (λ (X : Set). AllIdle (setting r).rules X r.stations) (sym c.own.ensures) (quiet_idle net (setting r) (view r) q)),
    )

pub returns-else-self-eq0 : goal.returns-else-self-eq0
returns-else-self-eq0 g c =
    let r = c.args.self.now in (
      λ e. absurd (c.if-self-eq0.false (eqb-true r.under_way 0 e)),
      λ q. absurd (c.if-self-eq0.false (r.under_way_is ∙ quiet_counts g.N.Network.net (setting r) (view r) q)),
    )
