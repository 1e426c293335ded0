use Rattle.std.proofs.Common.{rules}
use Rattle.runfile.specs.Format.{HasBodies}
use Rattle.runfile.proofs.Cut.{cut}
use Rattle.runfile.proofs.contents.bodies.Goals as goal

pub returns : goal.returns
returns c =
    let file = c.args.file.now in
    let has : HasBodies file = search rules in (
      has,
      cut file c.split_at.result.0.now c.split_at.result.1.now c.split_at-2.result.0.now c.split_at-2.result.1.now
          c.split_at-3.result.0.now c.split_at-3.result.1.now c.length_of-rule.result c.length_of-stations.result c.length_of-coin.result
          has.2 c.length_of-rule.ensures c.length_of-stations.ensures c.length_of-coin.ensures c.split_at.ensures.front
          c.split_at.ensures.back c.split_at-2.ensures.front c.split_at-2.ensures.back c.split_at-3.ensures.front
          c.split_at-3.ensures.back,
    )
