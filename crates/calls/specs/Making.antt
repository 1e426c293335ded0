-- What making a call does to a rig.
use Rattle.std.specs.Prelude.{◌≡◌, OnErr, Result}
use Rattle.agreement.specs.Rig.{Step}
use Rattle.faults.specs.declared.rule.FaultRule.{Ghosts as FaultRule}
use Rattle.network.specs.declared.Network.{Ghosts as Network}
use Rattle.coins.specs.declared.Coin.{Ghosts as Coin}
use Rattle.rig.specs.declared.rig.Rig.{Rig}
use Rattle.rig.specs.Rigs.{setting, view, Kept}
use Rattle.rig.specs.declared.fault.CallFault.{CallFault}
use Rattle.rig.specs.Calls.{answer}
use Rattle.calls.specs.declared.call.Call.{Call}
use Rattle.calls.specs.declared.answer.Answer.{Answer}
use Rattle.calls.specs.Calls.{call_of, answer_of}

module _ {F N C : Type 0} {f : FaultRule F} {n : Network N} {c : Coin C} where
  -- A call is made: it is a step of the protocol, and leaves rule, coin and setup. A call that is refused changes nothing.
  pub record Made (call : Call) (made : Result Answer CallFault) (r r' : Rig F N C f n c) : Type 0 where
    pub step : Step n.net (setting r) (call_of call) (answer answer_of made) (view r) (view r')
    pub refused : OnErr made (r' ≡ r)
    pub kept : Kept r r'
