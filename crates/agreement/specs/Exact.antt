-- What determines answers and states: every call has one answer; a station's state is a function of its history; and two
-- runs of the same calls, over networks of whatever kinds, go by the messages that were taken off.
use Rattle.std.specs.Prelude.{◌≡◌, ◌≢◌, ℕ, ◌<◌, Bool, true, false, List, [], ◌∷◌, map, Some as some, None as none, Option}
use Rattle.agreement.specs.declared.message.Message.{Message}
use Rattle.agreement.specs.Messages.{Same, Payload, message}
use Rattle.agreement.specs.Networks.{Network, Carries}
use Rattle.agreement.specs.Station.{Rules, Setting, size, Own, is_own, Station, speech}
use Rattle.agreement.specs.Rig.{Rig, Opened, Call, Answer, acted, delivered, lost, refused, Says, Step, Plays}
use Rattle.agreement.specs.Law.{Event, history, Gives}

module _ (N : Type 0) where
  -- Every call on any rig has an answer, over a network that carries messages in the states that it comes to.
  abbrev pub CallsAreAnswered : Type 0
  CallsAreAnswered =
      (net : Network N) (fit : N → Bool) → Carries net fit → (g : Setting) (c : Call) (r : Rig N) → fit r.network ≡ true
      → (a : Answer) × (r' : Rig N) × Step net g c a r r' × (fit r'.network ≡ true)

  -- A call has one answer, and leaves one rig.
  abbrev pub StepsAreDetermined : Type 0
  StepsAreDetermined =
      (net : Network N) (g : Setting) (c : Call) (a b : Answer) (r r' q : Rig N)
      → Step net g c a r r' → Step net g c b r q → (a ≡ b) × (r' ≡ q)

  -- So have calls in a row on a rig that is opened over a network in one state.
  abbrev pub RunsAreDetermined : Type 0
  RunsAreDetermined =
      (net : Network N) (g : Setting) (w : N) (calls : List Call) (answers others : List Answer) (o r p q : Rig N)
      → Opened net g w o → Opened net g w p → Plays net g calls answers o r → Plays net g calls others p q
      → (o ≡ p) × (answers ≡ others) × (r ≡ q)

-- From any state a history leads a station to one state, and to no other.
abbrev pub HistoriesLeadOn : Type 0
HistoriesLeadOn = (g : Rules) (s : Station) (es : List Event) → (t : Station) × Gives g s es t × ((u : Station) → Gives g s es u → u ≡ t)

-- The message that a call took off the network.
abbrev pub taken_message : Answer → Option Message
taken_message (delivered m change) = some m
taken_message (lost m) = some m
taken_message other = none

module _ {N : Type 0} (net : Network N) where
  -- No message that a call posts is turned away: of a turn's, the message to station k is not turned away by any state to
  -- which the posts to the stations below k lead.
  abbrev pub AllEnter : Setting → Answer → Rig N → Type 0
  AllEnter g (acted i a) r =
      (p : Payload) (k away : ℕ) (w : N) → speech a (r.station i) ≡ some p → k < size g.rules
      → Says net (is_own g) i p k r.network w away → net.turns_away w (message i k p) ≡ false
  AllEnter g (refused k) r = k ≢ 16
  AllEnter g other r = Unit {0}

  -- Nor is any message of a run.
  abbrev pub NoneTurnedAway : (g : Setting) (calls : List Call) (answers : List Answer) (r r' : Rig N)
      → Plays net g calls answers r r' → Type 0
  NoneTurnedAway g [] [] r r' run = Unit {0}
  NoneTurnedAway g [] (a ∷ answers) r r' run = ⊥
  NoneTurnedAway g (c ∷ calls) [] r r' run = ⊥
  NoneTurnedAway g (c ∷ calls) (a ∷ answers) r r' run =
      AllEnter g a r × NoneTurnedAway g calls answers run.0 r' run.2

-- Two networks, whose states may be of different kinds.
module _ {N M : Type 0} (net : Network N) (other : Network M) where
  -- They turn away the same messages where the same messages wait.
  abbrev pub TurnAwayAlike : Type 0
  TurnAwayAlike =
      (v : N) (w : M) (m : Message) → Same (net.waiting v) (other.waiting w) → net.turns_away v m ≡ other.turns_away w m

  -- Two rigs over them are alike: the same but for the networks' states, in which the same messages wait.
  pub record Alike (r : Rig N) (q : Rig M) : Type 0 where
    pub stations : (i : ℕ) → r.station i ≡ q.station i
    pub waiting : Same (net.waiting r.network) (other.waiting q.network)
    pub last : r.last ≡ q.last
    pub posted : r.posted ≡ q.posted
    pub missing : r.missing ≡ q.missing

module _ (N M : Type 0) where
  -- Over networks that turn away alike, only the message that a call takes off is open: alike rigs and the same message give
  -- the same answer and alike rigs.
  abbrev pub OnlyTakesAreOpen : Type 0
  OnlyTakesAreOpen =
      (net : Network N) (other : Network M) → TurnAwayAlike net other
      → (g : Setting) (c : Call) (a b : Answer) (r r' : Rig N) (q q' : Rig M) → Alike net other r q
      → Step net g c a r r' → Step other g c b q q'
      → ((m n : Message) → taken_message a ≡ some m → taken_message b ≡ some n → m ≡ n)
      → (a ≡ b) × Alike net other r' q'

  -- So runs of the same calls in which the same messages were taken off have the same answers and end in alike rigs.
  abbrev pub RunsGoByTakes : Type 0
  RunsGoByTakes =
      (net : Network N) (other : Network M) → TurnAwayAlike net other
      → (g : Setting) (v : N) (w : M) (calls : List Call) (answers others : List Answer) (o r : Rig N) (p q : Rig M)
      → Opened net g v o → Opened other g w p → Plays net g calls answers o r → Plays other g calls others p q
      → map taken_message answers ≡ map taken_message others → (answers ≡ others) × Alike net other r q

  -- Over any two networks this is so of runs in which no message was turned away.
  abbrev pub FreeRunsGoByTakes : Type 0
  FreeRunsGoByTakes =
      (net : Network N) (other : Network M)
      (g : Setting) (v : N) (w : M) (calls : List Call) (answers others : List Answer) (o r : Rig N) (p q : Rig M)
      → Opened net g v o → Opened other g w p
      → (x : Plays net g calls answers o r) (y : Plays other g calls others p q)
      → NoneTurnedAway net g calls answers o r x → NoneTurnedAway other g calls others p q y
      → map taken_message answers ≡ map taken_message others → (answers ≡ others) × Alike net other r q

  -- An own station's state is a function of its opening bit and its history: where two rigs go by the same rules, and the
  -- station has in both the same opening bit and the same history, it is in the same state.
  abbrev pub HistoriesTell : Type 0
  HistoriesTell =
      (net : Network N) (other : Network M) (g h : Setting) → g.rules ≡ h.rules
      → (v : N) (w : M) (calls others : List Call) (answers their : List Answer) (o r : Rig N) (p q : Rig M)
      → Opened net g v o → Opened other h w p → Plays net g calls answers o r → Plays other h others their p q
      → (i : ℕ) → Own g i → Own h i → g.opens i ≡ h.opens i → history i calls answers ≡ history i others their
      → r.station i ≡ q.station i
