-- What a station of the program keeps of a stage, and what of that is asked.
use Rattle.std.specs.Prelude.{◌≡◌, ℕ, ◌<◌, Bool, true, false, if◌then◌else◌, not, ◌&&◌, ◌||◌, ◌==◌, ◌↔◌, replicate, slice_index_or, Some, None, Option, option_map, is_some, is_none, nat_lt, slice_set, length}
use Rattle.std.specs.Option.{option_or}
use Rattle.agreement.specs.Sets.{Set, outside, either, only}
use Rattle.agreement.specs.Families.{Families}
use Rattle.stations.specs.Members.{members}
use Rattle.acts.specs.declared.act.Act.{Act}
use Rattle.acts.specs.declared.act.Act.TheVariants.{Open, Join, Admit, Close, Decide}
use Rattle.acts.specs.declared.value.Value.{Value}
use Rattle.acts.specs.declared.value.Value.TheVariants.{Zero}
use Rattle.acts.specs.declared.value.ValueSet.{ValueSet}
use Rattle.acts.specs.Values.{number, values}
use Rattle.station.specs.declared.stage.ValueRecord.{ValueRecord}
use Rattle.station.specs.declared.stage.StageRecord.{StageRecord}

-- The record of a value that nobody prepared or admitted.
abbrev pub empty_value : ValueRecord
empty_value = record { preparers = 0; prepared = false; admitted = false }

-- The record of a stage in which nothing was heard or done.
abbrev pub new_stage : StageRecord
new_stage = record {
  values = replicate 3 empty_value;
  proposals = replicate 10 None;
  input = Zero;
  proposed = None;
  grading = None;
}

-- A value's record.
abbrev pub value_of : StageRecord → ℕ → ValueRecord
value_of t v = slice_index_or t.values v empty_value

-- A sender's recorded proposal.
abbrev pub proposal_of : StageRecord → ℕ → Option Value
proposal_of t j = slice_index_or t.proposals j None

-- The record with another record of a value.
abbrev pub with_value_record : StageRecord → ℕ → ValueRecord → StageRecord
with_value_record t v r = record t { values = slice_set t.values v r }

-- j is put among those who prepared v, and nothing else changes.
pub record AddsPreparer (j v : ℕ) (t u : StageRecord) : Type 0 where
  pub within : v < length t.values
  pub preparers : members (value_of u v).preparers ≡ either (members (value_of t v).preparers) (only j)
  pub others : u ≡ with_value_record t v (record (value_of t v) { preparers = (value_of u v).preparers })

-- The record with v as j's proposal, unless j has one.
abbrev pub with_proposal : ℕ → Value → StageRecord → StageRecord
with_proposal j v t = if is_none (proposal_of t j) then record t { proposals = slice_set t.proposals j (Some v) } else t

-- The record with v prepared.
abbrev pub with_value_prepared : ℕ → StageRecord → StageRecord
with_value_prepared v t = with_value_record t v (record (value_of t v) { prepared = true })

-- The record with v admitted, and proposed where nothing was.
abbrev pub with_value_admitted : Value → StageRecord → StageRecord
with_value_admitted v t = record (with_value_record t (number v) (record (value_of t (number v)) { admitted = true })) {
  proposed = option_or t.proposed (Some v);
}

-- The act that opens the stage with this record, unless its input is prepared.
abbrev pub opening_act : StageRecord → ℕ → Option Act
opening_act t σ = if (value_of t (number t.input)).prepared then None else Some (Open σ t.input)

-- The value is to be joined: it is not prepared, and those who prepared it are blocking.
abbrev pub to_join : Families → ValueRecord → Bool
to_join f r = not r.prepared && not (f.wide (members r.preparers))

-- The value is to be admitted: it is not, and those who prepared it are a quorum.
abbrev pub to_admit : Families → ValueRecord → Bool
to_admit f r = not r.admitted && f.wide (outside (members r.preparers))

-- Nobody prepared the value, or it is prepared and admitted here.
abbrev pub is_settled : ValueRecord → Bool
is_settled r = (r.preparers == 0) || (r.prepared && r.admitted)

-- The first number below n that passes a test, or none where none passes.
abbrev pub First : ℕ → (ℕ → Bool) → Option ℕ → Type 0
First n P None = (k : ℕ) → k < n → P k ≡ false
First n P (Some m) = (P m ≡ true) × ((k : ℕ) → k < m → P k ≡ false)

-- The first value that passes a test, or none where no value passes.
abbrev pub FirstValue : (ℕ → Bool) → Option Value → Type 0
FirstValue P r = First 3 P (option_map number r)

-- The first act in the stage with this record by rules 2 and 3, or none where none applies.
abbrev pub FirstServed : Families → StageRecord → ℕ → Option Act → Type 0
FirstServed f t σ None = FirstValue (λ v. to_join f (value_of t v)) None × FirstValue (λ v. to_admit f (value_of t v)) None
FirstServed f t σ (Some (Join τ w)) = (τ ≡ σ) × FirstValue (λ v. to_join f (value_of t v)) (Some w)
FirstServed f t σ (Some (Admit τ w)) =
    (τ ≡ σ) × FirstValue (λ v. to_join f (value_of t v)) None × FirstValue (λ v. to_admit f (value_of t v)) (Some w)
FirstServed f t σ (Some (Open τ w)) = ⊥
FirstServed f t σ (Some (Close τ x)) = ⊥
FirstServed f t σ (Some (Decide b)) = ⊥

-- A proposal, if it is an admitted value.
abbrev pub if_admitted : StageRecord → Option Value → Option Value
if_admitted t None = None
if_admitted t (Some v) = if (value_of t (number v)).admitted then Some v else None

-- A sender's recorded proposal, if it is an admitted value.
abbrev pub backed_proposal : StageRecord → ℕ → Option Value
backed_proposal t j = if_admitted t (proposal_of t j)

-- The senders below n whose recorded proposal is an admitted value.
abbrev pub backers : ℕ → StageRecord → Set
backers n t j = nat_lt j n && is_some (backed_proposal t j)

-- The set holds exactly the values so proposed by senders below n.
abbrev pub AreBacked : StageRecord → ℕ → ValueSet → Type 0
AreBacked t n x = (v : ℕ) → (values x v ≡ true) ↔ ((j : ℕ) × (j < n) × (option_map number (backed_proposal t j) ≡ Some v))

-- The stage with this record is closed with this set of values, where those senders are a quorum.
abbrev pub Closes : Families → StageRecord → ℕ → Option Act → Type 0
Closes f t σ None = f.wide (outside (backers f.n t)) ≡ false
Closes f t σ (Some (Close τ x)) = (τ ≡ σ) × (f.wide (outside (backers f.n t)) ≡ true) × AreBacked t f.n x
Closes f t σ (Some (Open τ w)) = ⊥
Closes f t σ (Some (Join τ w)) = ⊥
Closes f t σ (Some (Admit τ w)) = ⊥
Closes f t σ (Some (Decide b)) = ⊥
