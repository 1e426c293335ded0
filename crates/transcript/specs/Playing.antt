-- What playing a call does to a rig and a buffer.
use Rattle.std.specs.Prelude.{ℕ, List, Result}
use Rattle.faults.specs.declared.rule.FaultRule.{Ghosts as FaultRule}
use Rattle.network.specs.declared.Network.{Ghosts as Network}
use Rattle.coins.specs.declared.Coin.{Ghosts as Coin}
use Rattle.rig.specs.declared.rig.Rig.{Rig}
use Rattle.rig.specs.declared.fault.CallFault.{CallFault}
use Rattle.rig.specs.Calls.{answer}
use Rattle.calls.specs.declared.call.Call.{Call}
use Rattle.calls.specs.declared.answer.Answer.{Answer}
use Rattle.calls.specs.Calls.{call_of, answer_of}
use Rattle.calls.specs.Making.{Made}
use Rattle.transcript.specs.Lines.{call_line}
use Rattle.transcript.specs.Putting.{LineStands}

module _ {F N C : Type 0} {f : FaultRule F} {n : Network N} {c : Coin C} where
  -- A call is played: it is made, and its line stands at the beginning of the buffer, of this length.
  abbrev pub LinePlayed : Call → ℕ → Rig F N C f n c → Rig F N C f n c → List ℕ → List ℕ → Type 0
  LinePlayed call k r r' buffer buffer' =
      (made : Result Answer CallFault) × Made call made r r'
      × LineStands (call_line (call_of call) (answer answer_of made)) k buffer buffer'
