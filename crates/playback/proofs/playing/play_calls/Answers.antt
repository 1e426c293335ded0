use Rattle.std.proofs.Common.{rules}
use Rattle.playback.proofs.Runs.{calls_on}
use Rattle.playback.proofs.playing.play_calls.Goals as goal

pub loop-call-preserved : goal.loop-call-preserved
loop-call-preserved g c =
    calls_on c.args.calls.now c.loop-call.call-index _ c.loop-call.text.items c.add_call.new.text.items c.args.rig.now c.loop-call.rig
    c.add_call.new.rig (search rules) c.loop-call.invariant c.in_ok-add_call.ensures
