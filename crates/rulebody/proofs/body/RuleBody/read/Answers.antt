use Rattle.std.proofs.Common.{rules}
use Rattle.std.proofs.lemmas.List.{take_rest}
use Rattle.rulebody.proofs.Standing.{lists_read}
use Rattle.rulebody.proofs.body.RuleBody.read.Goals as goal

pub returns-in-2 : goal.returns-in-2
returns-in-2 c =
    let bytes = c.args.bytes.now in
    lists_read bytes _ c.in_ok-pairs.pairs.now (take_rest bytes 4) (search rules) (search rules)
    (rw c.in_ok-pairs.ensures.ok_part at c.pairs.ensures) c.read_lists.result c.read_lists.ensures
