use Rattle.std.proofs.Common.{inl, inr, arith}
use Rattle.agreement.proofs.Tests.{true_or_false}
use Rattle.rulebody.proofs.Pairs.{two_by_two}
use Rattle.rulebody.proofs.reading.pairs.Goals as goal

pub returns : goal.returns
returns c = elim (true_or_false c.is_empty.result) [
  | inl t ↦ rw (c.then_some.ensures, t, c.as_chunks.ensures.front) (two_by_two c.args.bytes.now (grind (arith, c.as_chunks.ensures.back_len, c.is_empty.ensures)))
  | inr f ↦ rw (c.then_some.ensures, f) (grind (arith, c.as_chunks.ensures.back_len, c.is_empty.ensures))
]
