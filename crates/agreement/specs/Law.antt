-- What is claimed of every run of calls on an opened rig.
use Rattle.std.specs.Prelude.{◌≡◌, ℕ, ◌+◌, ◌*◌, ◌^◌, ◌<◌, ◌≤◌, Bool, true, if◌then◌else◌, ◌⊎◌, List, [], ◌∷◌, ◌++◌, Some as some, Option, ◌==◌}
use Rattle.agreement.specs.declared.message.Message.{Message}
use Rattle.agreement.specs.Families.{Laws}
use Rattle.agreement.specs.Messages.{copies}
use Rattle.agreement.specs.Station.{Rules, Setting, size, stages, Own, bit, Grading, Station, fresh_station, after_message, Act, Idle, Due, after_act}
use Rattle.agreement.specs.Networks.{Network}
use Rattle.agreement.specs.Rig.{Rig, Opened, Call, turn, Answer, delivered, Plays}

-- What happens to a station: a message comes to it, or it has a turn.
pub data Event : Type 0 where
  hears : Message → Event
  has_turn : Event

-- What happened to station i in a call, by the call and its answer.
abbrev pub events : ℕ → Call → Answer → List Event
events i (turn k) a = if k == i then has_turn ∷ [] else []
events i c (delivered m change) = if m.addressee == i then hears m ∷ [] else []
events i c a = []

-- What happened to station i in a run, in order.
abbrev pub history : ℕ → List Call → List Answer → List Event
history i [] answers = []
history i (c ∷ calls) [] = []
history i (c ∷ calls) (a ∷ answers) = events i c a ++ history i calls answers

-- The rules lead a station by its history from state s to state s': each message is heard, and in each turn the act that
-- is due is done, or nothing where none applies.
abbrev pub Gives : Rules → Station → List Event → Station → Type 0
Gives g s [] s' = s' ≡ s
Gives g s (hears m ∷ rest) s' = Gives g (after_message (size g) (stages g) m s) rest s'
Gives g s (has_turn ∷ rest) s' =
    ((a : Act) × Due g s a × Gives g (after_act g a s) rest s') ⊎ (Idle g s × Gives g s rest s')

-- The guests are tolerated in the wide sense.
abbrev pub Wide : Setting → Type 0
Wide g = g.rule.wide g.guest ≡ true

-- The guests are tolerated in the narrow sense.
abbrev pub Narrow : Setting → Type 0
Narrow g = g.rule.narrow g.guest ≡ true

-- All own stations open with the bit v.
abbrev pub OpenAlike : Setting → Bool → Type 0
OpenAlike g v = (i : ℕ) → Own g i → g.opens i ≡ v

-- Two grades differ by at most one, and where both are above 0 they carry one bit.
abbrev pub Near : Grading → Grading → Type 0
Near x y = (x.1 ≤ y.1 + 1) × (y.1 ≤ x.1 + 1) × (0 < x.1 → 0 < y.1 → (b : ℕ) × (x.0 ≡ some b) × (y.0 ≡ some b))

module _ {N : Type 0} where
  -- The grading that station i made in a round: half 0 after quarter 1, half 1 after quarter 3.
  abbrev pub grading_in : Rig N → ℕ → ℕ → ℕ → Option Grading
  grading_in r i round half = (r.station i).grading (4 * round + 2 * half + 1)

  -- No two own stations decided differently.
  abbrev pub Agreement : Setting → Rig N → Type 0
  Agreement g r =
      (i k b c : ℕ) → Own g i → Own g k → (r.station i).decision ≡ some b → (r.station k).decision ≡ some c → b ≡ c

  -- Any two own stations that made one grading, of one round and half, made near ones.
  abbrev pub GradesOneApart : Setting → Rig N → Type 0
  GradesOneApart g r =
      (i k round half : ℕ) (x y : Grading) → Own g i → Own g k → half < 2
      → grading_in r i round half ≡ some x → grading_in r k round half ≡ some y → Near x y

  -- Every grading of an own station is v with grade 2, and every decision is v.
  abbrev pub Unanimity : Setting → Bool → Rig N → Type 0
  Unanimity g v r =
      ((i round half : ℕ) (x : Grading) → Own g i → half < 2 → grading_in r i round half ≡ some x → x ≡ (some (bit v), 2))
      × ((i b : ℕ) → Own g i → (r.station i).decision ≡ some b → b ≡ bit v)

  -- All own stations have finished every round.
  abbrev pub Finished : Setting → Rig N → Type 0
  Finished g r = (i : ℕ) → Own g i → (r.station i).stage ≡ stages g.rules

  -- All own stations have decided.
  abbrev pub Decided : Setting → Rig N → Type 0
  Decided g r = (i : ℕ) → Own g i → (b : ℕ) × ((r.station i).decision ≡ some b)

  -- The round is one of the rig's, and each own station whose first grading there has grade 2 has the coin's bit in it.
  abbrev pub Unopposed : Setting → ℕ → Rig N → Type 0
  Unopposed g round r =
      (round < g.rounds) × ((i b : ℕ) → Own g i → grading_in r i round 0 ≡ some (some b, 2) → b ≡ bit (g.coin round))

-- Between own stations nothing waits, and each of them is idle.
abbrev pub Quiet : {N : Type 0} → Network N → Setting → Rig N → Type 0
Quiet net g r =
    ((m : Message) → Own g m.sender → Own g m.addressee → copies m (net.waiting r.network) ≡ 0)
    × ((i : ℕ) → Own g i → Idle g.rules (r.station i))

-- The law of a run that came to rig r.
pub record Law {N : Type 0} (net : Network N) (g : Setting) (calls : List Call) (answers : List Answer) (r : Rig N) : Type 0 where
  pub answered : (w : N) × (o : Rig N) × Opened net g w o × Plays net g calls answers o r
  pub by_the_rules : (i : ℕ) → Own g i → Gives g.rules (fresh_station (g.opens i)) (history i calls answers) (r.station i)
  pub agreement : Narrow g → Agreement g r
  pub grades_one_apart : Narrow g → GradesOneApart g r
  pub unanimity : (v : Bool) → Wide g → OpenAlike g v → Unanimity g v r
  pub finished_when_quiet :
      Narrow g ⊎ (Wide g × ((v : Bool) × OpenAlike g v)) → Quiet net g r → r.missing ≡ 0 → Finished g r
  pub decided_when_alike : (v : Bool) → Wide g → OpenAlike g v → Quiet net g r → r.missing ≡ 0 → Decided g r
  pub decided_when_unopposed :
      (round : ℕ) → Narrow g → Unopposed g round r → Quiet net g r → r.missing ≡ 0 → Decided g r
  pub cost : r.posted ≤ size g.rules ^ 2 * (16 * g.rounds + 1)

-- Every run keeps the law: for every lawful fault rule, one round or more, any guests, openings, coin, calls,
-- and any network.
abbrev pub EveryRun : Type 0 → Type 0
EveryRun N =
    (net : Network N) (g : Setting) → Laws g.rule → 1 ≤ g.rounds
    → (w : N) (calls : List Call) (answers : List Answer) (o r : Rig N)
    → Opened net g w o → Plays net g calls answers o r → Law net g calls answers r
