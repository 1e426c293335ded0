-- What else is proved of stations and runs.
use Rattle.std.specs.Prelude.{◌≡◌, ◌≢◌, ℕ, ◌+◌, ◌*◌, ◌^◌, ◌<◌, ◌≤◌, Bool, true, false, if◌then◌else◌, ◌⊎◌, ◌↔◌, List, Some as some, None as none, Option, ◌==◌}
use Rattle.std.specs.Option.{option_or}
use Rattle.agreement.specs.declared.message.Message.{Message}
use Rattle.agreement.specs.Messages.{copies, Payload, prepare, propose, commit}
use Rattle.agreement.specs.Networks.{Network}
use Rattle.agreement.specs.Families.{Blocking, Quorum}
use Rattle.agreement.specs.Station.{Rules, Setting, size, stages, Own, Station, fresh_station, proposers, Idle, Applies, Before, Due, after_act, speech}
use Rattle.agreement.specs.Station.{Act, opening, joining, admitting, closing, deciding}
use Rattle.agreement.specs.Station.{bit, Grading, grading_of, bit_at_two, bit_above_zero}
use Rattle.agreement.specs.Rig.{Rig, Opened, Call, Answer, Plays, capped_count}
use Rattle.agreement.specs.Said.{said_by_all}
use Rattle.agreement.specs.Law.{history, Gives}

-- At most one act is due.
abbrev pub OneActDue : Type 0
OneActDue = (g : Rules) (s : Station) (a b : Act) → Due g s a → Due g s b → a ≡ b

-- Some act is due, or none applies.
abbrev pub DueOrIdle : Type 0
DueOrIdle = (g : Rules) (s : Station) → ((a : Act) × Due g s a) ⊎ Idle g s

-- A station has done all that the rules ask of it: it has prepared the input of its stage; in each stage up to that one it
-- has prepared what a blocking set prepared, and admitted what a quorum prepared; those who proposed what it admitted in
-- its stage are no quorum yet; and it has decided, or no blocking set committed a bit.
pub record Served (g : Rules) (s : Station) : Type 0 where
  pub opened : s.stage < stages g → s.prepared s.stage (s.input s.stage) ≡ true
  pub joined :
      (σ v : ℕ) → σ ≤ s.stage → σ < stages g → v ≤ 2 → Blocking g.rule (s.preparers σ v) → s.prepared σ v ≡ true
  pub admitted :
      (σ v : ℕ) → σ ≤ s.stage → σ < stages g → v ≤ 2 → Quorum g.rule (s.preparers σ v) → s.admitted σ v ≡ true
  pub unbacked : s.stage < stages g → Quorum g.rule (proposers s s.stage (s.admitted s.stage)) → ⊥
  pub decided : (b : ℕ) → b ≤ 1 → Blocking g.rule (s.committers b) → s.decision ≢ none

-- No act applies exactly at such a station.
abbrev pub IdleIsServed : Type 0
IdleIsServed = (g : Rules) (s : Station) → Idle g s ↔ Served g s

-- The order in which acts are tried, link by link. An earlier stage goes first; in a stage opening, joining by value,
-- admitting by value, closing; deciding comes after everything.
pub record OrderOfTrying : Type 0 where
  pub open_then_join : (σ u v : ℕ) → Before (opening σ u) (joining σ v)
  pub join_then_join : (σ u v : ℕ) → u < v → Before (joining σ u) (joining σ v)
  pub join_then_admit : (σ u v : ℕ) → Before (joining σ u) (admitting σ v)
  pub admit_then_admit : (σ u v : ℕ) → u < v → Before (admitting σ u) (admitting σ v)
  pub admit_then_close : (σ v : ℕ) (P : ℕ → Bool) → Before (admitting σ v) (closing σ P)
  pub stage_then_stage : (σ τ v : ℕ) (P : ℕ → Bool) → σ < τ → Before (closing σ P) (opening τ v)
  pub close_then_decide : (σ b : ℕ) (P : ℕ → Bool) → Before (closing σ P) (deciding b)
  pub decide_then_decide : (b c : ℕ) → b < c → Before (deciding b) (deciding c)
  pub transitive : (a b c : Act) → Before a b → Before b c → Before a c
  pub irreflexive : (a : Act) → Before a a → ⊥

-- How sets are graded.
pub record Gradings : Type 0 where
  pub zero_alone : (P : ℕ → Bool) → P 0 ≡ true → P 1 ≡ false → P 2 ≡ false → grading_of P ≡ (some 0, 2)
  pub zero_and_blank : (P : ℕ → Bool) → P 0 ≡ true → P 1 ≡ false → P 2 ≡ true → grading_of P ≡ (some 0, 1)
  pub one_alone : (P : ℕ → Bool) → P 0 ≡ false → P 1 ≡ true → P 2 ≡ false → grading_of P ≡ (some 1, 2)
  pub one_and_blank : (P : ℕ → Bool) → P 0 ≡ false → P 1 ≡ true → P 2 ≡ true → grading_of P ≡ (some 1, 1)
  pub both_bits : (P : ℕ → Bool) → P 0 ≡ true → P 1 ≡ true → grading_of P ≡ (none, 0)
  pub no_bit : (P : ℕ → Bool) → P 0 ≡ false → P 1 ≡ false → grading_of P ≡ (none, 0)

-- Closing stage σ with set P makes the next stage the current one, and leaves this input there, this grading of σ and this
-- commitment.
abbrev pub Leaves : Rules → Station → ℕ → (ℕ → Bool) → ℕ → Option Grading → Option ℕ → Type 0
Leaves g s σ P next grading committed =
    let t = after_act g (closing σ P) s in
    (t.stage ≡ σ + 1) × (t.input (σ + 1) ≡ next) × (t.grading σ ≡ grading) × (t.committed ≡ committed)

-- What closing does in each quarter of round ρ.
pub record Closings (g : Rules) (s : Station) (ρ : ℕ) (P : ℕ → Bool) (x : Grading) : Type 0 where
  pub quarter_0 : Leaves g s (4 * ρ) P (bit_at_two x 2) none s.committed
  pub quarter_1 : Leaves g s (4 * ρ + 1) P (bit_at_two x (bit (g.coin ρ))) (some x) s.committed
  pub quarter_2 : Leaves g s (4 * ρ + 2) P (bit_at_two x 2) none s.committed
  pub quarter_3 :
      Leaves g s (4 * ρ + 3) P (bit_above_zero x (s.input (4 * ρ + 2))) (some x)
      (option_or s.committed (if x.1 == 2 then x.0 else none))

-- So it is at every station, in every round and with every set.
abbrev pub ClosingsByQuarter : Type 0
ClosingsByQuarter = (g : Rules) (s : Station) (ρ : ℕ) (P : ℕ → Bool) → Closings g s ρ P (grading_of P)

-- A station has prepared or proposed the value in the stage, or committed the bit.
abbrev pub Does : Station → Payload → Type 0
Does s (prepare σ v) = s.prepared σ v ≡ true
Does s (propose σ v) = s.proposed σ ≡ some v
Does s (commit b) = s.committed ≡ some b

-- What an act that applies says, its station had not done before. What it says, and what the station had done, is done
-- after it, and nothing else is.
abbrev pub SaidOnce : Type 0
SaidOnce =
    (g : Rules) (s : Station) (a : Act) (p : Payload) → Applies g s a
    → (speech a s ≡ some p → Does s p → ⊥)
    × (Does (after_act g a s) p ↔ (Does s p ⊎ (speech a s ≡ some p)))

module _ (N : Type 0) where
  -- Of every run on an opened rig, over a network with these states: P holds of it and of the rig that it came to.
  abbrev pub Always : (Network N → Setting → List Call → List Answer → Rig N → Type 0) → Type 0
  Always P =
      (net : Network N) (g : Setting) (w : N) (calls : List Call) (answers : List Answer) (o r : Rig N)
      → Opened net g w o → Plays net g calls answers o r → P net g calls answers r

  -- An own station is in the state that the rules give for its opening bit and its history.
  abbrev pub StationsFollowRules : Type 0
  StationsFollowRules =
      Always (λ net g calls answers r. (i : ℕ) → Own g i
      → Gives g.rules (fresh_station (g.opens i)) (history i calls answers) (r.station i))

  -- An own station has prepared its input in every stage that it has closed.
  abbrev pub OpensBeforeClosing : Type 0
  OpensBeforeClosing =
      Always (λ net g calls answers r. (i σ : ℕ) → Own g i → σ < (r.station i).stage
      → (r.station i).prepared σ ((r.station i).input σ) ≡ true)

  -- An own station has done nothing in a stage ahead of its own.
  abbrev pub NothingAhead : Type 0
  NothingAhead =
      Always (λ net g calls answers r. (i σ v : ℕ) → Own g i → (r.station i).stage < σ
      → ((r.station i).prepared σ v ≡ false) × ((r.station i).admitted σ v ≡ false)
      × ((r.station i).proposed σ ≡ none) × ((r.station i).grading σ ≡ none))

  -- A decision, once made, is never changed by any later calls.
  abbrev pub DecisionsLast : Type 0
  DecisionsLast =
      (net : Network N) (g : Setting) (calls : List Call) (answers : List Answer) (r r' : Rig N)
      → Plays net g calls answers r r'
      → (i b : ℕ) → (r.station i).decision ≡ some b → (r'.station i).decision ≡ some b

  -- What waits goes from a station of the rig to one of the rig.
  abbrev pub MessagesStayWithin : Type 0
  MessagesStayWithin =
      Always (λ net g calls answers r. (m : Message) → 0 < copies m (net.waiting r.network)
      → (m.sender < size g.rules) × (m.addressee < size g.rules))

  -- Turns handed to the network just n times what the stations have said, to n stations each.
  abbrev pub PostedIsSaid : Type 0
  PostedIsSaid =
      Always (λ net g calls answers r.
      r.posted ≡ size g.rules * said_by_all (size g.rules) (stages g.rules) r.station)

  -- Turns hand no more than n² × (16 × rounds + 1) messages to the network.
  abbrev pub PostedBounded : Type 0
  PostedBounded = Always (λ net g calls answers r. r.posted ≤ size g.rules ^ 2 * (16 * g.rounds + 1))

  -- No run's missing count goes past the largest number of 32 bits.
  abbrev pub MissingFits : Type 0
  MissingFits = Always (λ net g calls answers r. r.missing ≤ 4294967295)

  -- And no calls make it fall.
  abbrev pub MissingGrows : Type 0
  MissingGrows =
      (net : Network N) (g : Setting) (calls : List Call) (answers : List Answer) (r r' : Rig N)
      → Plays net g calls answers r r' → r.missing ≤ 4294967295 → r.missing ≤ r'.missing

-- The cap changes no count up to the largest number of 32 bits, and makes every larger one that.
abbrev pub CapAt32Bits : Type 0
CapAt32Bits =
    (m : ℕ) → (m ≤ 4294967295 → capped_count m ≡ m) × (4294967295 ≤ m → capped_count m ≡ 4294967295)
