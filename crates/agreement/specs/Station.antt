-- One own station: what it has heard and done, which act is due, and what an act does.
use Rattle.std.specs.Prelude.{◌≡◌, ℕ, ◌+◌, ◌-◌, ◌*◌, ◌/◌, ◌%◌, ◌<◌, ◌≤◌, Bool, true, false, if◌then◌else◌, not, ◌&&◌, ◌||◌, ◌⊎◌, ◌↔◌, Some as some, None as none, Option, option_map, is_none, unwrap_or, ◌==◌, nat_le, nat_lt}
use Rattle.std.specs.Option.{option_or, option_map_or}
use Rattle.agreement.specs.declared.message.Message.{Message}
use Rattle.agreement.specs.Sets.{Set}
use Rattle.agreement.specs.Families.{Families, Blocking, Quorum}
use Rattle.agreement.specs.Messages.{Payload, prepare, propose, commit}

-- What stations go by.
pub record Rules : Type 0 where
  pub rule : Families  -- the fault rule
  pub rounds : ℕ  -- how many rounds
  pub coin : ℕ → Bool  -- the coin's bit for each round

-- How many stations there are, numbered from 0.
abbrev pub size : Rules → ℕ
size g = g.rule.n

-- How many stages: stage σ is quarter σ % 4 of round σ / 4; a station at stage `stages g` has finished.
abbrev pub stages : Rules → ℕ
stages g = 4 * g.rounds

-- What a rig is opened with.
pub record Setting : Type 0 where
  pub rules : Rules  -- what its stations go by
  pub open rules use *
  pub guest : Set  -- which stations are guests
  pub opens : Set  -- which stations open with 1

-- An own station of the rig: it follows the rules.
abbrev pub Own : Setting → ℕ → Type 0
Own g i = (i < size g.rules) × (g.guest i ≡ false)

-- A guest of the rig: it may send anything to anyone.
abbrev pub Guest : Setting → ℕ → Type 0
Guest g i = (i < size g.rules) × (g.guest i ≡ true)

-- Whether a station is an own station of the rig.
abbrev pub is_own : Setting → ℕ → Bool
is_own g i = nat_lt i (size g.rules) && not (g.guest i)

-- A bit as a value. There is a third value, blank, which is 2.
abbrev pub bit : Bool → ℕ
bit b = if b then 1 else 0

-- A grading: a bit or none, and a grade of 0 to 2.
abbrev pub Grading : Type 0
Grading = Option ℕ × ℕ

-- A station's state: first what it heard, by stage, value and sender; then what it did, by stage and value.
pub record Station : Type 0 where
  pub preparers : ℕ → ℕ → Set  -- who prepared the value in the stage
  pub proposal : ℕ → ℕ → Option ℕ  -- the sender's first proposal in the stage
  pub committers : ℕ → Set  -- who committed the bit
  pub stage : ℕ  -- the current stage
  pub input : ℕ → ℕ  -- the input of the stage
  pub prepared : ℕ → ℕ → Bool  -- whether it prepared the value in the stage
  pub admitted : ℕ → ℕ → Bool  -- whether it admitted the value in the stage
  pub proposed : ℕ → Option ℕ  -- what it proposed in the stage: the first value that it admitted there
  pub grading : ℕ → Option Grading  -- the grading that closing the stage gave
  pub committed : Option ℕ  -- the bit that it committed
  pub decision : Option ℕ  -- the bit that it decided

-- A station as it is opened with a bit; the inputs of later stages read 0 until they are set.
abbrev pub fresh_station : Bool → Station
fresh_station b = record {
  preparers = λ _ _ _. false;
  proposal = λ _ _. none;
  committers = λ _ _. false;
  stage = 0;
  input = λ σ. if σ == 0 then bit b else 0;
  prepared = λ _ _. false;
  admitted = λ _ _. false;
  proposed = λ _. none;
  grading = λ _. none;
  committed = none;
  decision = none;
}

-- Whether a message counts, with n stations and stages up to an end. Any other is ignored.
abbrev pub is_heeded : ℕ → ℕ → Message → Bool
is_heeded n end m =
    nat_lt m.sender n && ((m.kind == 1 || m.kind == 2) && (nat_le m.value 2 && nat_lt m.stage end)
    || m.kind == 3 && (nat_le m.value 1 && m.stage == 0))

-- A station that has recorded a message that counts; a sender's first proposal in a stage stays.
abbrev pub with_message : Message → Station → Station
with_message m s = record s {
  preparers = λ σ v j.
      s.preparers σ v j || (m.kind == 1 && (m.stage == σ && (m.value == v && m.sender == j)));
  proposal = λ σ j.
      option_or (s.proposal σ j) (if m.kind == 2 && (m.stage == σ && m.sender == j) then some m.value else none);
  committers = λ b j. s.committers b j || (m.kind == 3 && (m.value == b && m.sender == j));
}

-- A station that has been handed a message, with n stations and stages up to an end.
abbrev pub after_message : ℕ → ℕ → Message → Station → Station
after_message n end m s = if is_heeded n end m then with_message m s else s

-- The senders whose recorded proposal in the stage passes the test.
abbrev pub proposers : Station → ℕ → (ℕ → Bool) → Set
proposers s σ P j = option_map_or P (s.proposal σ j) false

-- P holds exactly the admitted values that are some station's recorded proposal in the stage.
abbrev pub ProposalSet : Rules → Station → ℕ → (ℕ → Bool) → Type 0
ProposalSet g s σ P =
    (v : ℕ) → (P v ≡ true) ↔ ((s.admitted σ v ≡ true) × ((j : ℕ) × (j < size g) × (s.proposal σ j ≡ some v)))

-- The acts, by rules 1 to 5.
pub data Act : Type 0 where
  opening joining admitting : ℕ → ℕ → Act  -- a stage and a value there
  closing : ℕ → (ℕ → Bool) → Act  -- a stage and its proposal set
  deciding : ℕ → Act  -- a bit

-- When an act applies.
abbrev pub Applies : Rules → Station → Act → Type 0
Applies g s (opening σ v) = (σ ≡ s.stage) × (σ < stages g) × (v ≡ s.input σ) × (s.prepared σ v ≡ false)
Applies g s (joining σ v) =
    (σ ≤ s.stage) × (σ < stages g) × (v ≤ 2) × (s.prepared σ v ≡ false) × Blocking g.rule (s.preparers σ v)
Applies g s (admitting σ v) =
    (σ ≤ s.stage) × (σ < stages g) × (v ≤ 2) × (s.admitted σ v ≡ false) × Quorum g.rule (s.preparers σ v)
Applies g s (closing σ P) =
    (σ ≡ s.stage) × (σ < stages g) × Quorum g.rule (proposers s σ (s.admitted σ)) × ProposalSet g s σ P
Applies g s (deciding b) = (b ≤ 1) × (s.decision ≡ none) × Blocking g.rule (s.committers b)

-- No act applies.
abbrev pub Idle : Rules → Station → Type 0
Idle g s = (a : Act) → Applies g s a → ⊥

-- An act's place in the order of trying: 1 for rule 5, which comes last, else 0; its stage; its rule; its value or 0.
abbrev pub place : Act → ℕ × ℕ × ℕ × ℕ
place (opening σ v) = (0, σ, 1, 0)
place (joining σ v) = (0, σ, 2, v)
place (admitting σ v) = (0, σ, 3, v)
place (closing σ P) = (0, σ, 4, 0)
place (deciding b) = (1, 0, 5, b)

-- Act a is tried before act b: the first difference of their places decides.
abbrev pub Before : Act → Act → Type 0
Before a b =
    let x = place a in let y = place b in
    (x.0 < y.0) ⊎ ((x.0 ≡ y.0) × ((x.1 < y.1) ⊎ ((x.1 ≡ y.1) × ((x.2 < y.2) ⊎ ((x.2 ≡ y.2) × (x.3 < y.3))))))

-- The act that is due: it applies, and none before it does.
abbrev pub Due : Rules → Station → Act → Type 0
Due g s a = Applies g s a × ((b : Act) → Before b a → Applies g s b → ⊥)

-- The grading of a set by what it holds of 0, 1 and blank: {b} is (b, 2), {b, blank} is (b, 1), any other is (none, 0).
abbrev pub grading_by : Bool → Bool → Bool → Grading
grading_by true false blank = (some 0, if blank then 1 else 2)
grading_by false true blank = (some 1, if blank then 1 else 2)
grading_by zero one blank = (none, 0)

-- The grading of a set of values.
abbrev pub grading_of : (ℕ → Bool) → Grading
grading_of P = grading_by (P 0) (P 1) (P 2)

-- A grading's bit at grade 2, or else another value.
abbrev pub bit_at_two : Grading → ℕ → ℕ
bit_at_two x d = if x.1 == 2 then unwrap_or x.0 d else d

-- A grading's bit above grade 0, or else another value.
abbrev pub bit_above_zero : Grading → ℕ → ℕ
bit_above_zero x d = if x.1 == 0 then d else unwrap_or x.0 d

-- The input after stage σ closed with P. After quarters 0 and 2: b of {b}, else blank. After quarter 1: the bit at grade 2,
-- else the coin. After quarter 3: the bit above grade 0, else what was held, the input of quarter 2.
abbrev pub next_input : Rules → ℕ → (ℕ → Bool) → ℕ → ℕ
next_input g σ P held =
    if σ % 2 == 0 then bit_at_two (grading_of P) 2
    else if σ % 4 == 1 then bit_at_two (grading_of P) (bit (g.coin (σ / 4)))
    else bit_above_zero (grading_of P) held

-- Quarters 1 and 3 give a grading.
abbrev pub grading_made : ℕ → (ℕ → Bool) → Option Grading
grading_made σ P = if σ % 2 == 0 then none else some (grading_of P)

-- After quarter 3 a bit of grade 2 is one to commit.
abbrev pub bit_to_commit : ℕ → (ℕ → Bool) → Option ℕ
bit_to_commit σ P = if σ % 4 == 3 && (grading_of P).1 == 2 then (grading_of P).0 else none

-- f with a at x.
abbrev pub put : {A : Type 0} → (ℕ → A) → ℕ → A → ℕ → A
put f x a y = if y == x then a else f y

-- A station that has prepared v in stage σ.
abbrev pub with_prepared : ℕ → ℕ → Station → Station
with_prepared σ v s = record s { prepared = λ x y. s.prepared x y || (x == σ && y == v) }

-- What an act does to its station.
abbrev pub after_act : Rules → Act → Station → Station
after_act g (opening σ v) s = with_prepared σ v s
after_act g (joining σ v) s = with_prepared σ v s
after_act g (admitting σ v) s = record s {
  admitted = λ x y. s.admitted x y || (x == σ && y == v);
  proposed = put s.proposed σ (option_or (s.proposed σ) (some v));
}
after_act g (closing σ P) s = record s {
  stage = σ + 1;
  input = put s.input (σ + 1) (next_input g σ P (s.input (σ - 1)));
  grading = put s.grading σ (grading_made σ P);
  committed = option_or s.committed (bit_to_commit σ P);
}
after_act g (deciding b) s = record s { decision = some b }

-- What an act says to all, itself included: a prepared value, a stage's first admitted value, a newly committed bit.
abbrev pub speech : Act → Station → Option Payload
speech (opening σ v) s = some (prepare σ v)
speech (joining σ v) s = some (prepare σ v)
speech (admitting σ v) s = if is_none (s.proposed σ) then some (propose σ v) else none
speech (closing σ P) s = if is_none s.committed then option_map commit (bit_to_commit σ P) else none
speech (deciding b) s = none
