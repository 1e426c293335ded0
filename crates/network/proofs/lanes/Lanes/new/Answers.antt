use Rattle.std.proofs.Common.{rules}
use Rattle.network.proofs.Queues.{all_empty}
use Rattle.network.proofs.lanes.Lanes.new.Goals as goal

pub returns : goal.returns
returns c =
    let made = c.in_ok-try_from_fn.ensures.ok in
    all_empty c.in_ok-try_from_fn.field-0 10 made.long (λ i d h. let call = made.at i d (rw (← made.long) h) in search (rules, call))
