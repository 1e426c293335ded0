use Rattle.std.proofs.Common.{rules, refl, sym, subst, ◌≡◌, ◌≤◌, ◌+◌, ◌*◌, true, arith}
use Rattle.agreement.specs.Sets.{Set}
use Rattle.agreement.specs.Station.{is_own, size, stages}
use Rattle.agreement.specs.Said.{said_by_all}
use Rattle.agreement.proofs.Own.{own_is}
use Rattle.rig.specs.Rigs.{setting}
use Rattle.rig.specs.Settings.{count_between}
use Rattle.rig.specs.Tables.{station_in}
use Rattle.rig.specs.declared.table.StationTable.{StationTable}
use Rattle.rig.proofs.Counts.{few_posted}
use Rattle.rig.proofs.Checks.{own_checked}
use Rattle.rig.proofs.Turning.{posted_after, posted_as_before}
use Rattle.rig.proofs.Same.{unchanged}
use Rattle.rig.proofs.rig.Rig.turn.Goals as goal

pub returns-in_default-clause-refused : goal.returns-in_default-clause-refused
returns-in_default-clause-refused g c = unchanged c.args.self.now _ c.turn.new.self _ _ _ refl (search rules)

pub broadcast-posts-requires : goal.broadcast-posts-requires
broadcast-posts-requires g c =
    let r = c.args.self.now in
    let own = own_checked (setting r) c.args.station (search rules) in
    subst (λ (X : Set). X c.args.station ≡ true) (sym c.own-own.ensures) (own_is (setting r) c.args.station own)

pub overflow_add-self : goal.overflow_add-self
overflow_add-self g c =
    let r = c.args.self.now in
    let own = own_checked (setting r) c.args.station (search rules) in
    let now = posted_after (setting r).rules c.args.station r.stations c.turn.new.self own.0 r.posted c.size-size.result
    c.in-Some.turn c.in-Some-says.payload c.size-size.ensures c.in-Some.ensures.due c.in-Some-says.is r.posted_is in
    let few = few_posted (setting r).rules (station_in c.turn.new.self) (r.posted + c.size-size.result)
    (g.met.F.FaultRule.sized r.rule).1 r.setup.rounds.to_8 now in
    search rules

pub overflow_add-self-in-Some-says : goal.overflow_add-self-in-Some-says
overflow_add-self-in-Some-says g c =
    let r = c.args.self.now in
    let own = own_checked (setting r) c.args.station (search rules) in
    let now = posted_after (setting r).rules c.args.station r.stations c.turn.new.self own.0 r.posted c.size-size.result
    c.in-Some.turn c.in-Some-says.payload c.size-size.ensures c.in-Some.ensures.due c.in-Some-says.is r.posted_is in
    let few = few_posted (setting r).rules (station_in c.turn.new.self) (r.posted + c.size-size.result)
    (g.met.F.FaultRule.sized r.rule).1 r.setup.rounds.to_8 now in
    let told = c.broadcast-posts.ensures.told.at_most in
    let most : r.under_way + c.broadcast-posts.result.entered ≤ 12900 = omega (arith, few, r.under_way_posted, told) in
    search rules

pub invariant_of-self-in-Some-says : goal.invariant_of-self-in-Some-says
invariant_of-self-in-Some-says g c =
    let r = c.args.self.now in
    let own = own_checked (setting r) c.args.station (search rules) in
    let told = c.broadcast-posts.ensures.told in
    let net = g.N.Network.net in
    let w = r.network in
    let w' = c.broadcast-posts.new.network in
    let more : count_between (is_own (setting r)) (net.waiting w')
    ≡ count_between (is_own (setting r)) (net.waiting w) + c.broadcast-posts.result.entered
    = subst (λ (X : Set).
    count_between X (net.waiting w') ≡ count_between X (net.waiting w) + c.broadcast-posts.result.entered)
    c.own-own.ensures told.entered in
    record {
      posted_is = posted_after (setting r).rules c.args.station r.stations c.turn.new.self own.0 r.posted c.size-size.result
          c.in-Some.turn c.in-Some-says.payload c.size-size.ensures c.in-Some.ensures.due c.in-Some-says.is r.posted_is;
      under_way_is = omega (arith, r.under_way_is, more);
      under_way_posted = omega (arith, r.under_way_posted, told.at_most);
    }

pub invariant_of-self-in_default-says : goal.invariant_of-self-in_default-says
invariant_of-self-in_default-says g c =
    let r = c.args.self.now in
    let own = own_checked (setting r) c.args.station (search rules) in
    record {
      posted_is = posted_as_before (setting r).rules c.args.station r.stations c.turn.new.self own.0 r.posted c.in-Some.turn
          c.in-Some.ensures.due c.in_default-says.is r.posted_is;
      under_way_is = r.under_way_is;
      under_way_posted = r.under_way_posted;
    }

pub invariant_of-self : goal.invariant_of-self
invariant_of-self g c =
    let r = c.args.self.now in
    let G = (setting r).rules in
    let same : c.turn.new.self ≡ r.stations = search rules in
    record {
      posted_is = subst (λ (S : StationTable). r.posted ≡ size G * said_by_all (size G) (stages G) (station_in S)) (sym same) r.posted_is;
      under_way_is = r.under_way_is;
      under_way_posted = r.under_way_posted;
    }
