-- The lines of a transcript.
use Rattle.std.specs.Prelude.{ℕ, List, [], ◌∷◌, ◌++◌, codes, Option, Some, None}
use Rattle.agreement.specs.declared.message.Message.{Message}
use Rattle.agreement.specs.Station.{bit}
use Rattle.agreement.specs.Rig.{Call, turn, deliver, lose, send, repeat, Answer, acted, delivered, sent, lost, repeated, refused}
use Rattle.acts.specs.Acts.{numbers}
use Rattle.transcript.specs.Text.{Field, word, number, line_of}

-- The five fields of a message.
abbrev pub message_fields : Message → List Field
message_fields m =
    number m.sender ∷ number m.addressee ∷ number m.kind ∷ number m.stage ∷ number m.value ∷ []

-- The word with which the line of a call begins.
abbrev pub call_word : Call → List ℕ
call_word (turn i) = codes "t"
call_word (deliver h) = codes "d"
call_word (send m) = codes "f"
call_word (lose h) = codes "l"
call_word repeat = codes "r"

-- What follows it: what the call came to. A refusal has the word no and its number, for a turn after the station.
abbrev pub answer_fields : Call → Answer → List Field
answer_fields c (acted i a) =
    number i ∷ number (numbers a).0 ∷ number (numbers a).1 ∷ number (numbers a).2 ∷ []
answer_fields c (delivered m change) = message_fields m ++ (number (bit change) ∷ [])
answer_fields c sent = word (codes "ok") ∷ []
answer_fields c (lost m) = message_fields m
answer_fields c (repeated m) = message_fields m
answer_fields (turn i) (refused k) = number i ∷ word (codes "no") ∷ number k ∷ []
answer_fields c (refused k) = word (codes "no") ∷ number k ∷ []

-- The line of a call and its answer.
abbrev pub call_line : Call → Answer → List ℕ
call_line c a = line_of (word (call_word c) ∷ answer_fields c a)

-- A decision, or its absence.
abbrev pub decision_field : Option ℕ → Field
decision_field (Some b) = number b
decision_field None = word (codes "-")

-- The line of an own station at the end: its stage and its decision.
abbrev pub station_line : ℕ → ℕ → Option ℕ → List ℕ
station_line i stage decision = line_of (word (codes "s") ∷ number i ∷ number stage ∷ decision_field decision ∷ [])

-- The last line: how many messages are missing.
abbrev pub missing_line : ℕ → List ℕ
missing_line k = line_of (word (codes "m") ∷ number k ∷ [])

-- The only line of a file that is refused: the refusal's number, and its place.
abbrev pub refusal_line : ℕ → ℕ → List ℕ
refusal_line k place = line_of (word (codes "no") ∷ number k ∷ number place ∷ [])
