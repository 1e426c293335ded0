use Rattle.std.proofs.Common.{map}
use Rattle.calls.specs.Calls.{call_of}
use Rattle.rig.specs.Settings.{setting_of}
use Rattle.playback.proofs.Endings.{opened_with, prints_run}
use Rattle.playback.proofs.playing.play.Goals as goal

pub returns : goal.returns
returns g c =
    let a = c.args in
    let o = c.open-rig.result in
    let x = c.open-rig.ensures in
    prints_run a.network (setting_of (g.F.FaultRule.families a.rule) a.setup (g.C.Coin.bits a.coin))
    (map call_of a.calls.now) o c.play_calls.new.rig c.close-network.result.1 c.in_ok-text.text.items c.add_outcome.new.text.items
    (opened_with a.rule a.setup a.coin o x.rule x.setup x.coin) x.opened c.in_ok-text.ensures c.close-network.ensures.outcome
    c.in_ok-add_outcome.ensures _ c.close-network.ensures.network
