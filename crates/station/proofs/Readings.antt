-- How a station reads after one of its records changed.
use Rattle.std.proofs.Common.{◌≡◌, ℕ, ◌+◌, ◌<◌, Bool, true, false, cond, not, ltb, lt-ltb, ◌&&◌, ◌||◌, eqb, List, length, get_or, set, Option, Some as some, None as none, option_map, sym, refl, ap, ◌∙◌, inl, inr, arith}
use Rattle.std.specs.Option.{option_or}
use Rattle.std.proofs.lemmas.List.{get_or-set_same, get_or-set_other, get_or_default, length-set}
use Rattle.agreement.specs.Sets.{Set, holds, below, outside, either, only}
use Rattle.agreement.specs.Station.{Rules, put, with_message, after_act, admitting, bit}
use Rattle.agreement.specs.Station as model
use Rattle.agreement.specs.Messages.{message, prepare, propose, commit}
use Rattle.agreement.proofs.Tests.{same?, eqb_same}
use Rattle.acts.specs.declared.value.Value.{Value}
use Rattle.acts.specs.declared.value.Grade.{Grade}
use Rattle.acts.specs.Values.{number}
use Rattle.acts.specs.Gradings.{in_numbers}
use Rattle.station.specs.declared.stage.ValueRecord.{ValueRecord}
use Rattle.station.specs.declared.stage.StageRecord.{StageRecord}
use Rattle.station.specs.declared.station.Station.{Station}
use Rattle.station.specs.Stages.{new_stage, empty_value, value_of, proposal_of, AddsPreparer, with_proposal, with_value_prepared, with_value_admitted}
use Rattle.station.specs.Turns.{with_next_stage}
use Rattle.station.specs.Stations.{stage_of, read_by, read}

-- places of a list after one was written
pub written : {A : Type 0} (xs : List A) (i : ℕ) (a d : A) → i < length xs
    → (λ x. get_or (set xs i a) x d) ≡ put (λ x. get_or xs x d) i a
written xs i a d h j x = at x j
  where
    at : (x : ℕ) → get_or (set xs i a) x d ≡ put (λ y. get_or xs y d) i a x
    at x = elim (same? x i) [
      | inl e ↦ rw (e, eqb_same i) (get_or-set_same xs i a d h)
      | inr k ↦ rw k (get_or-set_other xs i x a d (grind arith))
    ]

-- what a part of the records is, if it is the same in the record that was written
pub kept : {A B : Type 0} (part : A → B) (f : ℕ → A) (i : ℕ) (a : A) → part a ≡ part (f i) → (x : ℕ)
    → part (put f i a x) ≡ part (f x)
kept part f i a e x = elim (same? x i) [
  | inl k ↦ rw (k, eqb_same i) e
  | inr k ↦ rw k refl
]

-- a part of the records: what is written, and elsewhere as it was
pub moved : {A B : Type 0} (part : A → B) (f : ℕ → A) (i : ℕ) (a : A) (b : B) → part a ≡ b → (x : ℕ)
    → part (put f i a x) ≡ put (λ y. part (f y)) i b x
moved part f i a b e x = elim (same? x i) [
  | inl k ↦ rw (k, eqb_same i) e
  | inr k ↦ rw k refl
]

-- a table with a at σ and v
abbrev put_pair : {A : Type 0} → (ℕ → ℕ → A) → ℕ → ℕ → A → ℕ → ℕ → A
put_pair f σ v a x y = cond (eqb x σ && eqb y v) a (f x y)

-- a part that is the same in a
kept_pair : {A B : Type 0} (part : A → B) (f : ℕ → ℕ → A) (σ v : ℕ) (a : A) → part a ≡ part (f σ v) → (x y : ℕ)
    → part (put_pair f σ v a x y) ≡ part (f x y)
kept_pair part f σ v a e x y = elim (same? x σ) [
  | inl k ↦ elim (same? y v) [
    | inl l ↦ rw (k, l, eqb_same σ, eqb_same v) e
    | inr l ↦ rw (k, eqb_same σ, l) refl
  ]
  | inr k ↦ rw k refl
]

-- a test that a passes
marked : {A : Type 0} (part : A → Bool) (f : ℕ → ℕ → A) (σ v : ℕ) (a : A) → part a ≡ true → (x y : ℕ)
    → part (put_pair f σ v a x y) ≡ (part (f x y) || (eqb x σ && eqb y v))
marked part f σ v a e x y = elim (same? x σ) [
  | inl k ↦ elim (same? y v) [
    | inl l ↦ rw (k, l, eqb_same σ, eqb_same v) (grind arith)
    | inr l ↦ rw (k, eqb_same σ, l) (grind arith)
  ]
  | inr k ↦ rw k (grind arith)
]

-- a set that in a has j besides
joined : {A : Type 0} (part : A → Set) (f : ℕ → ℕ → A) (σ v j : ℕ) (a : A) → part a ≡ either (part (f σ v)) (only j)
    → (x y k : ℕ)
    → part (put_pair f σ v a x y) k ≡ (part (f x y) k || (eqb σ x && (eqb v y && eqb j k)))
joined part f σ v j a e x y k = elim (same? x σ) [
  | inl m ↦ elim (same? y v) [
    | inl l ↦ let h : part a k ≡ (part (f σ v) k || eqb k j) = ap (λ (X : Set). X k) e in rw (m, l, eqb_same σ, eqb_same v) (grind arith)
    | inr l ↦ rw (m, eqb_same σ, l) (grind arith)
  ]
  | inr m ↦ rw m (grind arith)
]

or_false : (b : Bool) → (b || false) ≡ b
or_false true = refl
or_false false = refl

or_none : (o : Option ℕ) → option_or o none ≡ o
or_none none = refl
or_none (some x) = refl

-- messages by kind, with one field of the station changed
hears_prepare : (s : model.Station) (j σ v : ℕ)
    → with_message (message j 0 (prepare σ v)) s ≡ record s { preparers = λ x y k. s.preparers x y k || (eqb σ x && (eqb v y && eqb j k)) }
hears_prepare s j σ v i = record s {
  preparers = λ x y k. s.preparers x y k || (eqb σ x && (eqb v y && eqb j k));
  proposal = λ x k. or_none (s.proposal x k) i;
  committers = λ b k. or_false (s.committers b k) i;
}

hears_propose : (s : model.Station) (j σ v : ℕ)
    → with_message (message j 0 (propose σ v)) s
    ≡ record s { proposal = λ x k. option_or (s.proposal x k) (cond (eqb σ x && eqb j k) (some v) none) }
hears_propose s j σ v i = record s {
  preparers = λ x y k. or_false (s.preparers x y k) i;
  proposal = λ x k. option_or (s.proposal x k) (cond (eqb σ x && eqb j k) (some v) none);
  committers = λ b k. or_false (s.committers b k) i;
}

hears_commit : (s : model.Station) (j b : ℕ)
    → with_message (message j 0 (commit b)) s ≡ record s { committers = λ c k. s.committers c k || (eqb b c && eqb j k) }
hears_commit s j b i = record s {
  preparers = λ x y k. or_false (s.preparers x y k) i;
  proposal = λ x k. or_none (s.proposal x k) i;
  committers = λ c k. s.committers c k || (eqb b c && eqb j k);
}

-- stage σ's record is one that a station has, and it became u, which is written as w
pub record Written (s : Station) (σ : ℕ) (u w : StageRecord) : Type 0 where
  pub same : w ≡ u
  pub within : σ < length s.stages

at_default : (s : Station) (σ : ℕ) (d u w : StageRecord) → Written s σ u w → get_or s.stages σ d ≡ stage_of s σ
at_default s σ d u w k = get_or_default s.stages σ d new_stage k.within

read_written : (s : Station) (σ : ℕ) (u w : StageRecord) → Written s σ u w
    → read (record s { stages = set s.stages σ w }) ≡ read_by (put (stage_of s) σ u) s
read_written s σ u w k =
    ap (λ f. read_by f s) (ap (λ x. λ y. get_or (set s.stages σ x) y new_stage) k.same ∙ written s.stages σ u new_stage k.within)

-- where a value's record became r, and what was proposed p
value_written : (s : Station) (f : ℕ → StageRecord) (σ v : ℕ) (r : ValueRecord) (p : Option Value) (u : StageRecord)
    → v < length (f σ).values
    → u ≡ record (f σ) { values = set (f σ).values v r; proposed = p }
    → let V : ℕ → ℕ → ValueRecord = put_pair (λ x. value_of (f x)) σ v r in
    read_by (put f σ u) s ≡ record (read_by f s) {
      preparers = λ x y. holds (V x y).preparers;
      prepared = λ x y. (V x y).prepared;
      admitted = λ x y. (V x y).admitted;
      proposed = put (λ x. option_map number (f x).proposed) σ (option_map number p);
    }
value_written s f σ v r p u within e = λ i. record (read_by f s) {
  preparers = λ x y. holds (at x y i).preparers;
  proposal = λ x k. kept (λ t. option_map number (proposal_of t k)) f σ u (ap (λ t. option_map number (proposal_of t k)) e) x i;
  input = λ x. kept (λ t. number t.input) f σ u (ap (λ t. number t.input) e) x i;
  prepared = λ x y. (at x y i).prepared;
  admitted = λ x y. (at x y i).admitted;
  proposed = λ x. moved (λ t. option_map number t.proposed) f σ u (option_map number p) (ap (λ t. option_map number t.proposed) e) x i;
  grading = λ x. kept (λ t. option_map in_numbers t.grading) f σ u (ap (λ t. option_map in_numbers t.grading) e) x i;
}
  where
    at : (x y : ℕ) → value_of (put f σ u x) y ≡ put_pair (λ z. value_of (f z)) σ v r x y
    at x y = elim (same? x σ) [
      | inl k ↦ let h = ap (λ t. value_of t y) e ∙ ap (λ g. g y) (written (f σ).values v r empty_value within) in rw (k, eqb_same σ) h
      | inr k ↦ rw k refl
    ]

-- a station that has heard that j prepared v in stage σ
pub heard_prepare : (s : Station) (σ v j : ℕ) (d u w : StageRecord) → Written s σ u w
    → AddsPreparer j v (get_or s.stages σ d) u
    → read (record s { stages = set s.stages σ w }) ≡ with_message (message j 0 (prepare σ v)) (read s)
heard_prepare s σ v j d u w k a =
    let at = at_default s σ d u w k in
    let f = stage_of s in
    let V : ℕ → ℕ → ValueRecord = λ x. value_of (f x) in
    let r : ValueRecord = record (V σ v) { preparers = (value_of u v).preparers } in
    let joins = joined (λ q. holds q.preparers) V σ v j r (rw at at a.preparers) in
    let prepared = kept_pair (λ q. q.prepared) V σ v r refl in
    let admitted = kept_pair (λ q. q.admitted) V σ v r refl in
    let proposed = kept (λ t. t) (λ x. option_map number (f x).proposed) σ (option_map number (f σ).proposed) refl in
    read_written s σ u w k ∙ value_written s f σ v r (f σ).proposed u (rw at at a.within) (rw at at a.others)
    ∙ (λ i. record (read s) {
      preparers = λ x y k. joins x y k i;
      prepared = λ x y. prepared x y i;
      admitted = λ x y. admitted x y i;
      proposed = λ x. proposed x i;
    })
    ∙ sym (hears_prepare (read s) j σ v)

-- where proposals, input and grading of a stage's record were written
parts_written : (s : Station) (f : ℕ → StageRecord) (σ : ℕ) (q : List (Option Value)) (n : Value) (x : Option (Option Bool × Grade)) (u : StageRecord)
    → u ≡ record (f σ) { proposals = q; input = n; grading = x }
    → read_by (put f σ u) s ≡ record (read_by f s) {
      proposal = put (λ x j. option_map number (proposal_of (f x) j)) σ (λ j. option_map number (get_or q j none));
      input = put (λ x. number (f x).input) σ (number n);
      grading = put (λ x. option_map in_numbers (f x).grading) σ (option_map in_numbers x);
    }
parts_written s f σ q n x u e = λ i. record (read_by f s) {
  preparers = λ y v k. kept (λ t. holds (value_of t v).preparers k) f σ u (ap (λ t. holds (value_of t v).preparers k) e) y i;
  proposal = λ y j. moved proposals f σ u (λ k. option_map number (get_or q k none)) (ap proposals e) y i j;
  input = λ y. moved (λ t. number t.input) f σ u (number n) (ap (λ t. number t.input) e) y i;
  prepared = λ y v. kept (λ t. (value_of t v).prepared) f σ u (ap (λ t. (value_of t v).prepared) e) y i;
  admitted = λ y v. kept (λ t. (value_of t v).admitted) f σ u (ap (λ t. (value_of t v).admitted) e) y i;
  proposed = λ y. kept (λ t. option_map number t.proposed) f σ u (ap (λ t. option_map number t.proposed) e) y i;
  grading = λ y. moved (λ t. option_map in_numbers t.grading) f σ u (option_map in_numbers x) (ap (λ t. option_map in_numbers t.grading) e) y i;
}
  where
    proposals : StageRecord → ℕ → Option ℕ
    proposals t k = option_map number (proposal_of t k)

-- parts that were written as they were
same_proposals : (f : ℕ → StageRecord) (σ y : ℕ)
    → let P = λ (x j : ℕ). option_map number (proposal_of (f x) j) in put P σ (P σ) y ≡ P y
same_proposals f σ y = kept (λ t. t) (λ x j. option_map number (proposal_of (f x) j)) σ _ refl y

same_input : (f : ℕ → StageRecord) (σ y : ℕ) → put (λ x. number (f x).input) σ (number (f σ).input) y ≡ number (f y).input
same_input f σ y = kept (λ t. t) (λ x. number (f x).input) σ (number (f σ).input) refl y

same_grading : (f : ℕ → StageRecord) (σ y : ℕ)
    → put (λ x. option_map in_numbers (f x).grading) σ (option_map in_numbers (f σ).grading) y ≡ option_map in_numbers (f y).grading
same_grading f σ y = kept (λ t. t) (λ x. option_map in_numbers (f x).grading) σ (option_map in_numbers (f σ).grading) refl y

-- a stage's record in which v is j's first proposal, or has a first one already
proposes : (t u : StageRecord) (j : ℕ) (v : Value) (o : Option Value) → proposal_of t j ≡ o → j < length t.proposals
    → u ≡ with_proposal j v t
    → (u ≡ record t { proposals = u.proposals })
    × ((k : ℕ) → option_map number (proposal_of u k) ≡ option_or (option_map number (proposal_of t k)) (cond (eqb j k) (some (number v)) none))
proposes t u j v none is within e =
    let h : u ≡ record t { proposals = set t.proposals j (some v) } = rw is at e in (
      h ∙ (λ i. record t { proposals = (sym h i).proposals }),
      λ k. ap (λ (z : StageRecord). option_map number (proposal_of z k)) h ∙ elim (same? j k) [
        | inl m ↦
            let a = ap (option_map number) (get_or-set_same t.proposals j (some v) none within) in
            let b : option_map number (proposal_of t j) ≡ none = ap (option_map number) is in
            rw (← m) (rw (a, b, eqb_same j) refl)
        | inr m ↦
            let a = ap (option_map number) (get_or-set_other t.proposals j k (some v) none (grind arith)) in
            rw (a, m) (sym (or_none (option_map number (proposal_of t k))))
      ],
    )
proposes t u j v (some w) is within e =
    let h : u ≡ t = rw is at e in (
      h ∙ (λ i. record t { proposals = (sym h i).proposals }),
      λ k. ap (λ (z : StageRecord). option_map number (proposal_of z k)) h ∙ elim (same? j k) [
        | inl m ↦ let b : option_map number (proposal_of t j) ≡ some (number w) = ap (option_map number) is in rw (← m) (rw b refl)
        | inr m ↦ rw m (sym (or_none (option_map number (proposal_of t k))))
      ],
    )

-- a station that has heard that j proposed v in stage σ
pub heard_propose : (s : Station) (σ j : ℕ) (v : Value) (d u w : StageRecord) → Written s σ u w
    → let t = get_or s.stages σ d in j < length t.proposals → u ≡ with_proposal j v t
    → read (record s { stages = set s.stages σ w }) ≡ with_message (message j 0 (propose σ (number v))) (read s)
heard_propose s σ j v d u w k within e =
    let f = stage_of s in
    let t = get_or s.stages σ d in
    let p = proposes t u j v (proposal_of t j) refl within e in
    let h = rw (at_default s σ d u w k) at p in
    read_written s σ u w k ∙ parts_written s f σ u.proposals (f σ).input (f σ).grading u h.0
    ∙ (λ i. record (read s) {
      proposal = λ x k. table f σ j (number v) (λ k. option_map number (proposal_of u k)) h.1 x k i;
      input = λ y. same_input f σ y i;
      grading = λ y. same_grading f σ y i;
    })
    ∙ sym (hears_propose (read s) j σ (number v))
  where
    table : (f : ℕ → StageRecord) (σ j n : ℕ) (o : ℕ → Option ℕ)
        → ((k : ℕ) → o k ≡ option_or (option_map number (proposal_of (f σ) k)) (cond (eqb j k) (some n) none))
        → (x k : ℕ) → put (λ y l. option_map number (proposal_of (f y) l)) σ o x k
        ≡ option_or (option_map number (proposal_of (f x) k)) (cond (eqb σ x && eqb j k) (some n) none)
    table f σ j n o h x k = elim (same? x σ) [
      | inl m ↦ rw (m, eqb_same σ) (h k)
      | inr m ↦ let l : eqb σ x ≡ false = grind arith in rw (m, l) (sym (or_none (option_map number (proposal_of (f x) k))))
    ]

-- what is answered and left where j is put into a set
pub inserted : (X Y : Set) (j : ℕ) → j < 16 → Y ≡ cond (ltb j 16) (either X (only j)) X → Y ≡ either X (only j)
inserted X Y j h e = rw (lt-ltb j 16 h) at e

-- a station that has heard that j committed bit b
pub heard_commit : (s : Station) (b c j d x w : ℕ) → w ≡ x → b ≡ c → b < length s.committers
    → holds x ≡ either (holds (get_or s.committers b d)) (only j)
    → read (record s { committers = set s.committers b w }) ≡ with_message (message j 0 (commit c)) (read s)
heard_commit s b c j d x w written same within e =
    ap (λ y. read (record s { committers = set s.committers b y })) written
    ∙ (λ i. record (read s) { committers = λ y k. table y k i }) ∙ sym (hears_commit (read s) j b)
    ∙ ap (λ n. with_message (message j 0 (commit n)) (read s)) same
  where
    table : (y k : ℕ)
        → holds (get_or (set s.committers b x) y 0) k ≡ (holds (get_or s.committers y 0) k || (eqb b y && eqb j k))
    table y k = elim (same? y b) [
      | inl m ↦
          let a : get_or s.committers b d ≡ get_or s.committers b 0 = get_or_default s.committers b d 0 within in
          let f : holds x ≡ either (holds (get_or s.committers b 0)) (only j) = rw a at e in
          let g : holds x k ≡ (holds (get_or s.committers b 0) k || eqb k j) = ap (λ (X : Set). X k) f in
          rw (m, get_or-set_same s.committers b x 0 within) (grind arith)
      | inr m ↦ rw (get_or-set_other s.committers b y x 0 (grind arith)) (grind arith)
    ]

-- whether it is new that j committed bit c
pub commit_is_new : (s : Station) (b c j d : ℕ) (r : Bool) → r ≡ below 16 (outside (holds (get_or s.committers b d))) j
    → j < 16 → b ≡ c
    → b < length s.committers → r ≡ not ((read s).committers c j)
commit_is_new s b c j d r e h same within =
    let k : r ≡ not (holds (get_or s.committers b d) j) = rw (lt-ltb j 16 h) at e in
    k ∙ rw (← same) (ap (λ x. not (holds x j)) (get_or_default s.committers b d 0 within))

-- a station that has prepared v in stage σ
pub prepared_in : (s : Station) (σ v : ℕ) (d u w : StageRecord) → Written s σ u w
    → let t = get_or s.stages σ d in v < length t.values → u ≡ with_value_prepared v t
    → read (record s { stages = set s.stages σ w }) ≡ model.with_prepared σ v (read s)
prepared_in s σ v d u w k within e =
    let at = at_default s σ d u w k in
    let f = stage_of s in
    let V : ℕ → ℕ → ValueRecord = λ x. value_of (f x) in
    let r : ValueRecord = record (V σ v) { prepared = true } in
    let preparers = kept_pair (λ q. holds q.preparers) V σ v r refl in
    let prepared = marked (λ q. q.prepared) V σ v r refl in
    let admitted = kept_pair (λ q. q.admitted) V σ v r refl in
    let proposed = kept (λ t. t) (λ x. option_map number (f x).proposed) σ (option_map number (f σ).proposed) refl in
    read_written s σ u w k ∙ value_written s f σ v r (f σ).proposed u (rw at at within) (rw at at e)
    ∙ (λ i. record (read s) {
      preparers = λ x y. preparers x y i;
      prepared = λ x y. prepared x y i;
      admitted = λ x y. admitted x y i;
      proposed = λ x. proposed x i;
    })

-- a station that has admitted v in stage σ
pub admitted_in : (g : Rules) (s : Station) (σ : ℕ) (v : Value) (d u w : StageRecord) → Written s σ u w
    → let t = get_or s.stages σ d in number v < length t.values → u ≡ with_value_admitted v t
    → read (record s { stages = set s.stages σ w }) ≡ after_act g (admitting σ (number v)) (read s)
admitted_in g s σ v d u w k within e =
    let at = at_default s σ d u w k in
    let f = stage_of s in
    let V : ℕ → ℕ → ValueRecord = λ x. value_of (f x) in
    let r : ValueRecord = record (V σ (number v)) { admitted = true } in
    let preparers = kept_pair (λ q. holds q.preparers) V σ (number v) r refl in
    let prepared = kept_pair (λ q. q.prepared) V σ (number v) r refl in
    let admitted = marked (λ q. q.admitted) V σ (number v) r refl in
    read_written s σ u w k ∙ value_written s f σ (number v) r (option_or (f σ).proposed (some v)) u (rw at at within) (rw at at e)
    ∙ (λ i. record (read s) {
      preparers = λ x y. preparers x y i;
      prepared = λ x y. prepared x y i;
      admitted = λ x y. admitted x y i;
      proposed = put (read s).proposed σ (first (f σ).proposed i);
    })
  where
    first : (o : Option Value)
        → option_map number (option_or o (some v)) ≡ option_or (option_map number o) (some (number v))
    first none = refl
    first (some w) = refl

-- a station of which stage σ has grading x
graded_in : (s : Station) (σ : ℕ) (x : Option (Option Bool × Grade)) (d : StageRecord) → σ < length s.stages
    → let u : StageRecord = record (get_or s.stages σ d) { grading = x } in
    read (record s { stages = set s.stages σ u }) ≡ record (read s) { grading = put (read s).grading σ (option_map in_numbers x) }
graded_in s σ x d h =
    let f = stage_of s in
    let u : StageRecord = record (get_or s.stages σ d) { grading = x } in
    let at : u ≡ record (f σ) { grading = x } = ap (λ (t : StageRecord). record t { grading = x }) (get_or_default s.stages σ d new_stage h) in
    read_written s σ u u (record { same = refl; within = h }) ∙ parts_written s f σ (f σ).proposals (f σ).input x u at
    ∙ (λ i. record (read s) {
      proposal = λ y. same_proposals f σ y i;
      input = λ y. same_input f σ y i;
      grading = put (read s).grading σ (option_map in_numbers x);
    })

-- a station of which stage σ has input v
input_in : (s : Station) (σ : ℕ) (v : Value) (d : StageRecord) → σ < length s.stages
    → let u : StageRecord = record (get_or s.stages σ d) { input = v } in
    read (record s { stages = set s.stages σ u }) ≡ record (read s) { input = put (read s).input σ (number v) }
input_in s σ v d h =
    let f = stage_of s in
    let u : StageRecord = record (get_or s.stages σ d) { input = v } in
    let at : u ≡ record (f σ) { input = v } = ap (λ (t : StageRecord). record t { input = v }) (get_or_default s.stages σ d new_stage h) in
    read_written s σ u u (record { same = refl; within = h }) ∙ parts_written s f σ (f σ).proposals v (f σ).grading u at
    ∙ (λ i. record (read s) {
      proposal = λ y. same_proposals f σ y i;
      input = put (read s).input σ (number v);
      grading = λ y. same_grading f σ y i;
    })

-- a station that has left its stage with grading x, and come into the next with input v
pub advanced_with : (s : Station) (x : Option (Option Bool × Grade)) (v : Value) (d e : StageRecord)
    → s.current + 1 < length s.stages
    → let σ = s.current in
    let u : StageRecord = record (get_or s.stages σ d) { grading = x } in
    let w : StageRecord = record (get_or (set s.stages σ u) (σ + 1) e) { input = v } in
    read (record s { stages = set (set s.stages σ u) (σ + 1) w; current = σ + 1 }) ≡ with_next_stage (option_map in_numbers x) (number v) (read s)
advanced_with s x v d e h =
    let σ = s.current in
    let u : StageRecord = record (get_or s.stages σ d) { grading = x } in
    let left : Station = record s { stages = set s.stages σ u; current = σ + 1 } in
    let came : σ + 1 < length left.stages = rw (length-set s.stages σ u) h in
    input_in left (σ + 1) v e came
    ∙ ap (λ (m : model.Station). record m { stage = σ + 1; input = put m.input (σ + 1) (number v) }) (graded_in s σ x d (omega (arith, h)))
