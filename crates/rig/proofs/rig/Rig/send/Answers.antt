use Rattle.std.proofs.Common.{rules, refl, arith, ◌≡◌, sym, false, is_ok}
use Rattle.agreement.specs.Station.{is_own}
use Rattle.rig.specs.Rigs.{setting}
use Rattle.rig.specs.Settings.{between}
use Rattle.rig.proofs.Checks.{guests_message, on_err}
use Rattle.rig.proofs.Counts.{count_posted}
use Rattle.rig.proofs.Same.{unchanged}
use Rattle.rig.proofs.rig.Rig.send.Goals as goal

pub invariant_of-self-clause-under_way_is : goal.invariant_of-self-clause-under_way_is
invariant_of-self-clause-under_way_is g c =
    let r = c.args.self.now in
    let P = between (is_own (setting r)) in
    let no : P c.args.message ≡ false = guests_message (setting r) c.args.message (sym c.if-not-has.ensures) in
    let u = count_posted c.post.result g.N.Network.net r.network c.post.new.self P c.args.message
    false (is_ok c.post.result) r.under_way 0 r.under_way_is (sym no) refl refl c.post.ensures.ok c.post.ensures.err in
    omega (arith, u)

pub returns-in_err-post-clause-refused : goal.returns-in_err-post-clause-refused
returns-in_err-post-clause-refused g c =
    on_err c.from_residual.result (unchanged c.args.self.now c.post.new.self _ _ _ _ (search rules) refl)
