use Rattle.std.proofs.Common.{ℕ, ◌<◌}
use Rattle.runfile.specs.Format.{HasKind}
use Rattle.runfile.proofs.contents.check_kinds.Given as goal

abbrev pub invariant-loop-entry : goal.invariant-loop-entry
invariant-loop-entry l = (j : ℕ) → j < l.entry → HasKind l.file j
