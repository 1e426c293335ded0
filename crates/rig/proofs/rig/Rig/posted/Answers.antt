use Rattle.rig.proofs.Counts.{posted_within}
use Rattle.std.proofs.Common.{arith}
use Rattle.rig.proofs.rig.Rig.posted.Goals as goal

pub returns-clause-bound : goal.returns-clause-bound
returns-clause-bound g c = omega (arith, posted_within c.args.self.now)
