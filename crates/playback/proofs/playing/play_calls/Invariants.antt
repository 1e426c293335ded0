use Rattle.std.proofs.Common.{map, take}
use Rattle.calls.specs.Calls.{call_of}
use Rattle.playback.specs.Playing.{PrintsCalls}
use Rattle.playback.proofs.playing.play_calls.Given as goal

abbrev pub invariant-loop-call : goal.invariant-loop-call
invariant-loop-call g l = PrintsCalls (map call_of (take l.call-index l.calls)) l.text.items l.initial.rig l.rig
