use Rattle.std.proofs.Common.{rules, arith}
use Rattle.network.proofs.Search.{first_found, none_found}
use Rattle.network.proofs.lanes.first_filled.Goals as goal

pub returns-then-not-is_empty-clause-lane : goal.returns-then-not-is_empty-clause-lane
returns-then-not-is_empty-clause-lane c =
    first_found c.args.lanes.now c.args.start c.loop-passed.passed c.lane_after-lane.result c.index-lanes-lane.result (search rules)
    c.requires (search rules) c.loop-passed.invariant c.lane_after-lane.ensures c.index-lanes-lane.is (grind arith)

pub returns-clause-none : goal.returns-clause-none
returns-clause-none c =
    none_found c.args.lanes.now c.args.start (search rules) c.requires (λ k h. c.loop-passed.invariant k (search (rules, h)))
