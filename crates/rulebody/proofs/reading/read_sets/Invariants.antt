use Rattle.std.proofs.Common.{◌≡◌, map, take}
use Rattle.rulebody.specs.Format.{word}
use Rattle.rulebody.proofs.reading.read_sets.Given as goal

abbrev pub invariant-loop-pair : goal.invariant-loop-pair
invariant-loop-pair l = l.list.items ≡ map (λ p. word p 0) (take l.pair-index l.pairs)
