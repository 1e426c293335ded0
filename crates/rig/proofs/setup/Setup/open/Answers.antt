use Rattle.std.proofs.Common.{ℕ, ◌*◌, List, sym, refl, ap, ◌∙◌, mul-zero, arith}
use Rattle.agreement.specs.declared.message.Message.{Message}
use Rattle.agreement.specs.Sets.{Set}
use Rattle.agreement.specs.Station.{is_own, fresh_station}
use Rattle.agreement.proofs.Cost.{nothing_said}
use Rattle.rig.specs.Settings.{setting_of, among, count_between}
use Rattle.rig.specs.Tables.{station_in}
use Rattle.rig.proofs.Sets.{opened_with}
use Rattle.rig.proofs.setup.Setup.open.Goals as goal

pub invariant_of-result : goal.invariant_of-result
invariant_of-result g c =
    let n = (g.F.FaultRule.families c.args.rule).n in
    let own = is_own (setting_of (g.F.FaultRule.families c.args.rule) c.args.self (g.C.Coin.bits c.args.coin)) in
    record {
      posted_is = sym (ap (λ (x : ℕ). n * x)
          (nothing_said n (4 * c.args.self.rounds.count) (station_in c.new-stations.result) (among c.opening_with_1.result)
          c.new-stations.ensures) ∙ mul-zero n);
      under_way_is = sym (ap (λ (w : List Message). count_between own w) c.clear.ensures.cleared.1);
      under_way_posted = omega arith;
    }

pub returns-clause-opened : goal.returns-clause-opened
returns-clause-opened g c =
    let s = setting_of (g.F.FaultRule.families c.args.rule) c.args.self (g.C.Coin.bits c.args.coin) in
    record {
      stations = λ i. c.new-stations.ensures i ∙ ap (λ (X : Set). fresh_station (X i)) c.opening_with_1.ensures
          ∙ ap fresh_station (opened_with s i);
      network = c.clear.ensures.cleared;
      last = refl;
      posted = refl;
      missing = refl;
    }
