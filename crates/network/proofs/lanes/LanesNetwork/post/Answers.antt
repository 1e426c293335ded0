use Rattle.std.proofs.Common.{rules}
use Rattle.network.proofs.Queues.{entered}
use Rattle.network.proofs.lanes.LanesNetwork.post.Goals as goal

pub returns-clause-ok : goal.returns-clause-ok
returns-clause-ok c = entered c.self.inside.lanes c.args.self.now c.lane_of.result c.args.message _ c.put.new.self c.put.result (search rules) c.put.ensures.items c.put.ensures.variant (search rules) c.self.invariant c.self.view_is
