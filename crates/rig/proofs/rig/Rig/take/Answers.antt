use Rattle.std.proofs.Common.{rules, refl, subst, ◌≡◌}
use Rattle.agreement.specs.Sets.{Set}
use Rattle.agreement.specs.Station.{is_own}
use Rattle.rig.specs.Rigs.{setting}
use Rattle.rig.specs.Settings.{between}
use Rattle.rig.proofs.Counts.{count_taken}
use Rattle.rig.proofs.Same.{unchanged}
use Rattle.rig.proofs.rig.Rig.take.Goals as goal

pub returns-in_default-clause-refused : goal.returns-in_default-clause-refused
returns-in_default-clause-refused g c = unchanged c.args.self.now c.take.new.self _ _ _ _ (search rules) refl

pub overflow_sub-self : goal.overflow_sub-self
overflow_sub-self g c =
    let r = c.args.self.now in
    let m = c.in-Some.message in
    let e : c.is_between.result ≡ between (is_own (setting r)) m
    = subst (λ (X : Set). c.is_between.result ≡ between X m) c.own-own.ensures c.is_between.ensures in
    (count_taken (between (is_own (setting r))) m (g.N.Network.net.waiting r.network) (g.N.Network.net.waiting c.take.new.self)
    r.under_way _ c.in-Some.ensures.some.2 r.under_way_is (search (rules, e))).0

pub invariant_of-self-2-clause-under_way_is : goal.invariant_of-self-2-clause-under_way_is
invariant_of-self-2-clause-under_way_is g c =
    let r = c.args.self.now in
    let m = c.in-Some.message in
    let e : c.is_between.result ≡ between (is_own (setting r)) m
    = subst (λ (X : Set). c.is_between.result ≡ between X m) c.own-own.ensures c.is_between.ensures in
    (count_taken (between (is_own (setting r))) m (g.N.Network.net.waiting r.network) (g.N.Network.net.waiting c.take.new.self)
    r.under_way _ c.in-Some.ensures.some.2 r.under_way_is (search (rules, e))).1
