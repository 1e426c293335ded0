use Rattle.std.proofs.Common.{◌≡◌, ◌++◌}
use Rattle.playback.specs.Outcomes.{noted_lines}
use Rattle.playback.proofs.playing.add_outcome.Given as goal

abbrev pub invariant-loop-station : goal.invariant-loop-station
invariant-loop-station l = l.text.items ≡ l.initial.text.items ++ noted_lines l.outcome.stations l.station
