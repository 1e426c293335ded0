use Rattle.std.proofs.Common.{rules, ◌^◌, length, arith}
use Rattle.std.proofs.lemmas.Iterator.{YieldsList-from_slice, YieldsList-from_map}
use Rattle.std.proofs.lemmas.Iterator.Consumers.{fits_by_from_yields_list, sum_by_from_yields_List}
use Rattle.network.proofs.Queues.{counted}
use Rattle.network.proofs.lanes.LanesNetwork.count.Goals as goal

pub sum-requires-clause-fits : goal.sum-requires-clause-fits
sum-requires-clause-fits c =
    let lanes = c.self.inside.lanes in
    let n = counted lanes c.self.invariant in
    fits_by_from_yields_list length lanes c.map.result (2 ^ 16)
    (YieldsList-from_map _ length (YieldsList-from_slice lanes cc) c.map.ensures.closure (λ x r q k. search rules))
    (omega (arith, n.1))

pub returns : goal.returns
returns c =
    let lanes = c.self.inside.lanes in
    let n = counted lanes c.self.invariant in
    let s = sum_by_from_yields_List length lanes c.map.result c.sum.result c.sum.ensures.ran
    (YieldsList-from_map _ length (YieldsList-from_slice lanes cc) c.map.ensures.closure (λ x r q k. search rules)) in
    rw (← c.self.view_is) (omega (arith, s, n.0, n.1))
