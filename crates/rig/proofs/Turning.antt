-- What the stations have said after a turn.
use Rattle.std.proofs.Common.{◌≡◌, ℕ, ◌+◌, ◌*◌, ◌<◌, ◌≤◌, Bool, true, false, cond, Some as some, None as none, Option, option_map, sym, ap, ◌∙◌, refl, arith, add-zero, mul-zero, mul-one, mul-add}
use Rattle.agreement.specs.Station.{Rules, size, stages, after_message, speech}
use Rattle.agreement.specs.declared.message.Message.{Message}
use Rattle.agreement.specs.Said.{counted, said, said_by_all}
use Rattle.agreement.specs.Sets.{Set}
use Rattle.agreement.proofs.Cost.{all_after, all_kept, said_hearing}
use Rattle.acts.specs.declared.value.Value.{Value}
use Rattle.acts.specs.declared.value.Value.TheVariants.{Zero, One, Blank}
use Rattle.acts.specs.declared.act.Turn.{Turn}
use Rattle.acts.specs.declared.payload.Payload.{Payload}
use Rattle.acts.specs.Values.{number}
use Rattle.acts.specs.Acts.{act_of}
use Rattle.acts.specs.Payloads.{payload_of}
use Rattle.rig.specs.declared.table.StationTable.{StationTable}
use Rattle.rig.specs.Tables.{station_in, Receives, DoesDueActAt}

number_le : (v : Value) → number v ≤ 2
number_le Zero = omega arith
number_le One = omega arith
number_le Blank = omega arith

input_le : (T : StationTable) (i σ : ℕ) → (station_in T i).input σ ≤ 2
input_le T i σ = number_le _

module _ (g : Rules) (i : ℕ) (T T' : StationTable) (h : i < size g) where
  abbrev pub all_said : StationTable → ℕ
  all_said S = said_by_all (size g) (stages g) (station_in S)

  turned : (t : Turn) → DoesDueActAt i g T T' t
      → all_said T' ≡ all_said T + counted (speech (act_of t.act) (station_in T i))
  turned t d = all_after g i (act_of t.act) (station_in T) (station_in T') h d.due.0
      (input_le T i (station_in T i).stage) d.stations

  -- what a turn says, once it was posted to all, was posted for what was said
  pub posted_on : (posted : ℕ) (t : Turn) → DoesDueActAt i g T T' t → posted ≡ size g * all_said T
      → posted + size g * counted t.says ≡ size g * all_said T'
  posted_on posted t d q =
      let o = speech (act_of t.act) (station_in T i) in
      let n : counted t.says ≡ counted o = same t.says ∙ ap (λ x. counted x) d.says in
      ap (λ x. x + size g * counted t.says) q ∙ ap (λ x. size g * all_said T + size g * x) n
      ∙ sym (mul-add (size g) (all_said T) (counted o)) ∙ ap (λ x. size g * x) (sym (turned t d))
    where
      same : (o : Option Payload) → counted o ≡ counted (option_map payload_of o)
      same none = refl
      same (some x) = refl

  pub posted_after : (posted k : ℕ) (t : Turn) (p : Payload) → k ≡ size g → DoesDueActAt i g T T' t → t.says ≡ some p
      → posted ≡ size g * all_said T → posted + k ≡ size g * all_said T'
  posted_after posted k t p n d e q =
      let one : counted t.says ≡ 1 = ap (λ x. counted x) e in
      ap (λ x. posted + x) (n ∙ sym (mul-one (size g)) ∙ ap (λ x. size g * x) (sym one)) ∙ posted_on posted t d q

  pub posted_as_before : (posted : ℕ) (t : Turn) → DoesDueActAt i g T T' t → t.says ≡ none
      → posted ≡ size g * all_said T → posted ≡ size g * all_said T'
  posted_as_before posted t d e q =
      let none : counted t.says ≡ 0 = ap (λ x. counted x) e in
      sym (add-zero posted) ∙ ap (λ x. posted + x) (sym (mul-zero (size g)) ∙ ap (λ x. size g * x) (sym none))
      ∙ posted_on posted t d q

-- nor does a delivery add to what was said
pub heard : (n end : ℕ) (own : Set) (m : Message) (T T' : StationTable) → Receives own n end m T T'
    → said_by_all n end (station_in T') ≡ said_by_all n end (station_in T)
heard n end own m T T' c =
    let s = station_in T m.addressee in
    all_kept n end m.addressee (cond (own m.addressee) (after_message n end m s) s) (station_in T) (station_in T') c
    (go (own m.addressee))
  where
    go : (b : Bool) → let s = station_in T m.addressee in said end (cond b (after_message n end m s) s) ≡ said end s
    go true = said_hearing end n end m (station_in T m.addressee)
    go false = refl
