-- Runs of a rig of a single station that opens with 1: one through a stage, step by step, and one to the end.
use Rattle.std.specs.Prelude.{◌≡◌, ℕ, Bool, true, false, List, [], ◌∷◌, length, drop, slice_get, Some as some, None as none, ◌==◌, nat_le}
use Rattle.agreement.specs.Families.{Laws}
use Rattle.agreement.specs.Thresholds.{threshold}
use Rattle.agreement.specs.declared.message.Message.{Message}
use Rattle.agreement.specs.Messages.{message, prepare, propose}
use Rattle.agreement.specs.Networks.{Network, Carries}
use Rattle.agreement.specs.Station.{Setting, opening, admitting, closing}
use Rattle.agreement.specs.Rig.{Rig, Opened, Call, turn, deliver, Plays}
use Rattle.agreement.specs.Rig.{Answer, acted, delivered, refused}
use Rattle.agreement.specs.Law.{Narrow, OpenAlike, Unopposed, Quiet, Finished}

-- A network that holds so many messages, and takes off the latest first.
abbrev pub stack : ℕ → Network (List Message)
stack holds = record {
  waiting = λ w. w;
  turns_away = λ w m. nat_le holds (length w);
  picks = λ w h. slice_get w 0;
  cleared = λ w. [];
  posted = λ w m. m ∷ w;
  taken = λ w h. drop 1 w;
}

-- A rule that tolerates no guest, and one round with this bit as its coin.
abbrev pub one_station : Bool → Setting
one_station bit = record {
  rules = record { rule = threshold 1 0 0; rounds = 1; coin = λ _. bit };
  guest = λ _. false;
  opens = λ i. i == 0;
}

-- It prepares 1, hears that, admits and proposes 1, has nothing to do until it hears that, and closes stage 0 with {1}.
abbrev pub six_calls : List Call
six_calls = turn 0 ∷ deliver 0 ∷ turn 0 ∷ turn 0 ∷ deliver 0 ∷ turn 0 ∷ []

-- The answers to these calls.
abbrev pub six_answers : List Answer
six_answers =
    acted 0 (opening 0 1)
    ∷ delivered (message 0 0 (prepare 0 1)) true
    ∷ acted 0 (admitting 0 1)
    ∷ refused 13
    ∷ delivered (message 0 0 (propose 0 1)) true
    ∷ acted 0 (closing 0 (λ v. v == 1))
    ∷ []

-- Under a lawful rule and over a network that carries messages these calls with these answers lead to stage 1, undecided, with nothing missing.
pub record SingleRun : Type 0 where
  pub lawful : Laws (threshold 1 0 0)
  pub carries : Carries (stack 4096) (λ _. true)
  pub start : Rig (List Message)
  pub end : Rig (List Message)
  pub opened : Opened (stack 4096) (one_station false) [] start
  pub plays : Plays (stack 4096) (one_station false) six_calls six_answers start end
  pub stage : (end.station 0).stage ≡ 1
  pub undecided : (end.station 0).decision ≡ none
  pub none_missing : end.missing ≡ 0

-- Some calls lead the single station, with a coin of ones, to the end: to a quiet rig that has finished and decided for 1,
-- with nothing missing. Its guests (there are none) are narrow, it opened alike, and its coin was unopposed.
pub record QuietRun : Type 0 where
  pub calls : List Call
  pub answers : List Answer
  pub start : Rig (List Message)
  pub end : Rig (List Message)
  pub opened : Opened (stack 4096) (one_station true) [] start
  pub plays : Plays (stack 4096) (one_station true) calls answers start end
  pub narrow : Narrow (one_station true)
  pub alike : OpenAlike (one_station true) true
  pub unopposed : Unopposed (one_station true) 0 end
  pub quiet : Quiet (stack 4096) (one_station true) end
  pub none_missing : end.missing ≡ 0
  pub finished : Finished (one_station true) end
  pub decided : (end.station 0).decision ≡ some 1
