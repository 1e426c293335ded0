use Rattle.std.proofs.Common.{rules}
use Rattle.network.proofs.Queues.{are_lanes_taken, exited, none_picked}
use Rattle.network.proofs.lanes.LanesNetwork.take.Goals as goal

pub returns-in_err-lane-clause-choice : goal.returns-in_err-lane-clause-choice
returns-in_err-lane-clause-choice c = search (rules, none_picked)

pub invariant_of-self : goal.invariant_of-self
invariant_of-self c = search (rules, are_lanes_taken)

pub returns-clause-some : goal.returns-clause-some
returns-clause-some c =
    exited c.self.inside.lanes c.args.self.now c.args.hint c.in_ok-lane.lane _ c.take_oldest.new.self c.take_oldest.result
    c.take_oldest.ensures.rest c.take_oldest.ensures.oldest (search rules) c.self.invariant.ten (search rules) (search rules) c.self.view_is
