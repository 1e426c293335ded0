-- A run of two own stations and a guest on a small network: messages that are ignored, losses, repeats, and every refusal
-- but 13.
use Rattle.std.specs.Prelude.{◌≡◌, ℕ, Bool, true, false, not, List, [], ◌∷◌, ◌++◌, map, Some as some, ◌==◌}
use Rattle.agreement.specs.declared.message.Message.{Message}
use Rattle.agreement.specs.Families.{Laws}
use Rattle.agreement.specs.Thresholds.{threshold}
use Rattle.agreement.specs.Station.{Setting, fresh_station, opening}
use Rattle.agreement.specs.Rig.{Rig, Opened, Call, turn, deliver, lose, send, repeat, Plays}
use Rattle.agreement.specs.Example.{stack}
use Rattle.agreement.specs.Rig.{Answer, acted, delivered, sent, lost, repeated, refused}

-- Any one of three stations may be a guest in the wide sense, none in the narrow. Station 2 is one; all but station 1 open
-- with 1.
abbrev pub three_stations : Setting
three_stations = record {
  rules = record { rule = threshold 3 1 0; rounds = 1; coin = λ _. false };
  guest = λ i. i == 2;
  opens = λ i. not (i == 1);
}

-- A message: its sender, addressee, kind, stage and value.
abbrev pub from_to : ℕ → ℕ → ℕ → ℕ → ℕ → Message
from_to i k kind stage value = record { sender = i; addressee = k; kind = kind; stage = stage; value = value }

-- The guest's message to itself.
abbrev pub to_itself : Message
to_itself = from_to 2 2 1 0 0

-- A message of the guest's is sent and delivered, and its addressee's record changes or not.
abbrev pub passage : Message → Bool → List (Call × Answer)
passage m change = (send m, sent) ∷ (deliver 0, delivered m change) ∷ []

-- Calls that are refused while nothing waits and nothing was delivered.
abbrev pub refusals : List (Call × Answer)
refusals =
    (repeat, refused 17)
    ∷ (deliver 0, refused 14)
    ∷ (lose 0, refused 14)
    ∷ (turn 3, refused 11)
    ∷ (turn 2, refused 12)
    ∷ (send (from_to 3 0 1 0 0), refused 11)
    ∷ (send (from_to 0 3 1 0 0), refused 11)
    ∷ (send (from_to 0 1 1 0 0), refused 15)
    ∷ []

-- The guest proposes 1; its second proposal changes nothing. Ignored are a stage past the last, a value above 2, a commit
-- in stage 1, one of a value above 1, and a kind above 3. Its commit to the other own station is heard; a message to itself
-- is not.
abbrev pub guest_messages : List (Call × Answer)
guest_messages =
    passage (from_to 2 0 2 0 1) true
    ++ passage (from_to 2 0 2 0 0) false
    ++ passage (from_to 2 0 1 4 0) false
    ++ passage (from_to 2 0 1 3 3) false
    ++ passage (from_to 2 0 3 1 1) false
    ++ passage (from_to 2 0 3 0 2) false
    ++ passage (from_to 2 0 4 0 0) false
    ++ passage (from_to 2 1 3 0 1) true
    ++ passage to_itself false

-- What was delivered can be repeated after a copy was lost. While two wait, station 0 opens: the network holds one of its
-- three messages and turns the others away, and then also a guest message and a repeat. Two are lost, one is delivered.
abbrev pub crowded_network : List (Call × Answer)
crowded_network =
    (repeat, repeated to_itself)
    ∷ (lose 0, lost to_itself)
    ∷ (repeat, repeated to_itself)
    ∷ (repeat, repeated to_itself)
    ∷ (turn 0, acted 0 (opening 0 1))
    ∷ (send (from_to 2 0 2 0 1), refused 16)
    ∷ (repeat, refused 16)
    ∷ (lose 0, lost (from_to 0 0 1 0 1))
    ∷ (lose 0, lost to_itself)
    ∷ (deliver 0, delivered to_itself false)
    ∷ []

-- These calls with these answers, and what they lead to. Missing are the messages from station 0 to own stations: one was
-- turned away and one lost. The guest's own bit and messages left no trace at the guest.
pub record GuestRun : Type 0 where
  pub lawful : Laws (threshold 3 1 0)
  pub start : Rig (List Message)
  pub end : Rig (List Message)
  pub opened : Opened (stack 3) three_stations [] start
  pub plays :
      let script = refusals ++ guest_messages ++ crowded_network in
      Plays (stack 3) three_stations (map (λ x. x.0) script) (map (λ x. x.1) script) start end
  pub waiting : end.network ≡ []
  pub last : end.last ≡ some to_itself
  pub posted : end.posted ≡ 3
  pub missing : end.missing ≡ 2
  pub prepared : (end.station 0).prepared 0 1 ≡ true
  pub proposal : (end.station 0).proposal 0 2 ≡ some 1
  pub committers : (end.station 1).committers 1 2 ≡ true
  pub guest : end.station 2 ≡ fresh_station false
