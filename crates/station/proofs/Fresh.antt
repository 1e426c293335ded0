-- How a station reads that is opened.
use Rattle.std.proofs.Common.{◌≡◌, ℕ, zero, suc, Bool, true, false, cond, eqb, List, [], ◌∷◌, get_or, replicate, None as none, option_map, refl, ◌∙◌, arith}
use Rattle.agreement.specs.Sets.{holds}
use Rattle.agreement.specs.Station.{Station, fresh_station, bit}
use Rattle.agreement.proofs.Numbers.{holds_empty}
use Rattle.acts.specs.declared.value.Value.{Value}
use Rattle.acts.specs.Values.{number, value_of_bit}
use Rattle.acts.specs.Gradings.{in_numbers}
use Rattle.station.specs.declared.stage.ValueRecord.{ValueRecord}
use Rattle.station.specs.declared.stage.StageRecord.{StageRecord}
use Rattle.station.specs.Stages.{empty_value, new_stage, value_of, proposal_of}
use Rattle.station.specs.Stations.{read}

-- a place of a list of n times a
all_one : {A B : Type 0} (part : A → B) (a : A) (b : B) → part a ≡ b → (n i : ℕ) → part (get_or (replicate n a) i a) ≡ b
all_one part a b e zero i = e
all_one part a b e (suc n) zero = e
all_one part a b e (suc n) (suc i) = all_one part a b e n i

-- the table of stages of a station that opens with v
abbrev table : StageRecord → Value → List StageRecord
table t v = record t { input = v } ∷ replicate 32 t

in_table : {B : Type 0} (part : StageRecord → B) (b : B) (v : Value) → part (record new_stage { input = v }) ≡ b
    → part new_stage ≡ b
    → (σ : ℕ) → part (get_or (table new_stage v) σ new_stage) ≡ b
in_table part b v e f zero = e
in_table part b v e f (suc σ) = all_one part new_stage b f 32 σ

value_in_table : {B : Type 0} (part : ValueRecord → B) (v : Value) (σ w : ℕ)
    → part (value_of (get_or (table new_stage v) σ new_stage) w) ≡ part empty_value
value_in_table part v σ w =
    let e = all_one part empty_value (part empty_value) refl 3 w in
    in_table (λ t. part (value_of t w)) (part empty_value) v e e σ

proposal_in_table : (v : Value) (σ j : ℕ)
    → option_map number (proposal_of (get_or (table new_stage v) σ new_stage) j) ≡ none
proposal_in_table v σ j =
    let e = all_one (option_map number) none none refl 10 j in in_table (λ t. option_map number (proposal_of t j)) none v e e σ

bit_input : (b : Bool) → number (value_of_bit b) ≡ bit b
bit_input true = refl
bit_input false = refl

first_input : (b : Bool) (σ : ℕ)
    → number (get_or (table new_stage (value_of_bit b)) σ new_stage).input ≡ cond (eqb σ 0) (bit b) 0
first_input b zero = bit_input b
first_input b (suc σ) =
    let e : eqb (suc σ) 0 ≡ false = grind arith in rw e (all_one (λ t. number t.input) new_stage 0 refl 32 σ)

pub fresh : (opening : Bool) (t : StageRecord) (v : Value) → t ≡ new_stage → v ≡ value_of_bit opening
    → read (record { stages = table t v; committers = 0 ∷ 0 ∷ []; current = 0; committed = none; decision = none })
    ≡ fresh_station opening
fresh opening t v e f = (λ i. at (e i) (f i)) ∙ λ i. record {
  preparers = λ σ w j. (value_in_table (λ q. holds q.preparers j) (value_of_bit opening) σ w ∙ holds_empty j) i;
  proposal = λ σ j. proposal_in_table (value_of_bit opening) σ j i;
  committers = λ b j. (all_one (λ y. holds y j) 0 false (holds_empty j) 2 b) i;
  stage = 0;
  input = λ σ. first_input opening σ i;
  prepared = λ σ w. value_in_table (λ q. q.prepared) (value_of_bit opening) σ w i;
  admitted = λ σ w. value_in_table (λ q. q.admitted) (value_of_bit opening) σ w i;
  proposed = λ σ. in_table (λ t. option_map number t.proposed) none (value_of_bit opening) refl refl σ i;
  grading = λ σ. in_table (λ t. option_map in_numbers t.grading) none (value_of_bit opening) refl refl σ i;
  committed = none;
  decision = none;
}
  where
    at : StageRecord → Value → Station
    at z w = read (record { stages = table z w; committers = 0 ∷ 0 ∷ []; current = 0; committed = none; decision = none })
