-- What playing calls on a rig prints.
use Rattle.std.specs.Prelude.{◌≡◌, ℕ, List, ◌++◌, Result}
use Rattle.agreement.specs.Rig.{Call, Answer, Plays}
use Rattle.faults.specs.declared.rule.FaultRule.{Ghosts as FaultRule}
use Rattle.network.specs.declared.Network.{Ghosts as Network}
use Rattle.coins.specs.declared.Coin.{Ghosts as Coin}
use Rattle.rig.specs.declared.rig.Rig.{Rig}
use Rattle.rig.specs.Rigs.{setting, view, Kept}
use Rattle.rig.specs.declared.fault.CallFault.{CallFault}
use Rattle.rig.specs.Calls.{answer}
use Rattle.calls.specs.declared.call.Call.{Call as Asked}
use Rattle.calls.specs.declared.answer.Answer.{Answer as Answered}
use Rattle.calls.specs.Calls.{call_of, answer_of}
use Rattle.calls.specs.Making.{Made}
use Rattle.transcript.specs.Lines.{call_line}
use Rattle.playback.specs.Runs.{call_lines}

module _ {F N C : Type 0} {f : FaultRule F} {n : Network N} {c : Coin C} where
  -- The calls were made in a row, with these answers, and the text is their lines.
  pub record Printed (calls : List Call) (text : List ℕ) (r r' : Rig F N C f n c) (answers : List Answer) : Type 0 where
    pub plays : Plays n.net (setting r) calls answers (view r) (view r')
    pub lines : text ≡ call_lines calls answers
    pub kept : Kept r r'

  -- So it is with some answers.
  abbrev pub PrintsCalls : List Call → List ℕ → Rig F N C f n c → Rig F N C f n c → Type 0
  PrintsCalls calls text r r' = (answers : List Answer) × Printed calls text r r' answers

  -- A call was made, and its line added to the text.
  pub record Added (call : Asked) (made : Result Answered CallFault) (text text' : List ℕ) (r r' : Rig F N C f n c) : Type 0 where
    pub is_made : Made call made r r'
    pub lines : text' ≡ text ++ call_line (call_of call) (answer answer_of made)

  -- So it is with what the call came to.
  abbrev pub AddsCall : Asked → List ℕ → List ℕ → Rig F N C f n c → Rig F N C f n c → Type 0
  AddsCall call text text' r r' = (made : Result Answered CallFault) × Added call made text text' r r'
