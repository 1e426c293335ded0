use Rattle.std.proofs.Common.{rules}
use Rattle.network.proofs.Places.{exited}
use Rattle.network.proofs.bag.BagNetwork.take.Goals as goal

pub returns-clause-some : goal.returns-clause-some
returns-clause-some c =
    exited c.args.self.now c.args.hint c.swap_remove.result c.swap_remove.new.self.items (search rules) (search rules) (search rules)
