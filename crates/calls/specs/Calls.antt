-- Calls and answers of the program, read as the model's.
use Rattle.agreement.specs.Rig.{turn, deliver, lose, send, acted, delivered, sent, lost}
use Rattle.agreement.specs.Rig as model
use Rattle.acts.specs.Acts.{act_of}
use Rattle.calls.specs.declared.call.Call.{Call}
use Rattle.calls.specs.declared.call.Call.TheVariants.{Turn, Deliver, Send, Lose}
use Rattle.calls.specs.declared.answer.Answer.{Answer}
use Rattle.calls.specs.declared.answer.Answer.TheVariants.{Acted, Delivered, Sent, Lost}

-- What is asked.
abbrev pub call_of : Call → model.Call
call_of (Turn station) = turn station
call_of (Deliver hint) = deliver hint
call_of (Send m) = send m
call_of (Lose hint) = lose hint

-- What is answered where the call was not refused.
abbrev pub answer_of : Answer → model.Answer
answer_of (Acted station a) = acted station (act_of a)
answer_of (Delivered d) = delivered d.message d.changed
answer_of Sent = sent
answer_of (Lost m) = lost m
