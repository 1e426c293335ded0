-- Recording a message keeps the station's facts, if an own sender has really done what it says.
use Rattle.std.proofs.Common.{◌≡◌, ℕ, Bool, true, false, cond, ◌&&◌, eqb, Some as some, None as none, Option, refl, inl, inr, arith, eqb-true}
use Rattle.std.specs.Option.{option_or, option_map_or}
use Rattle.agreement.specs.declared.message.Message.{Message}
use Rattle.agreement.specs.Families.{Laws}
use Rattle.agreement.specs.Station.{Setting, Own, Station, with_message, proposers}
use Rattle.agreement.proofs.Tests.{or_cases, or_left, and_split}
use Rattle.agreement.proofs.Closing.{option_or-cases}
use Rattle.agreement.proofs.Own.{quorum_grows, blocking_grows}
use Rattle.agreement.proofs.Facts.{World, Good, Ext, Grow, good_grows}

-- what the message says, its sender has done
pub record Sent (W : World) (m : Message) : Type 0 where
  pub prepared : m.kind ≡ 1 → (W m.sender).prepared m.stage m.value ≡ true
  pub proposed : m.kind ≡ 2 → (W m.sender).proposed m.stage ≡ some m.value
  pub committed : m.kind ≡ 3 → (W m.sender).committed ≡ some m.value

pub sent_grows : (W W' : World) (m : Message) → Grow W W' → Sent W m → Sent W' m
sent_grows W W' m w t = record {
  prepared = λ k. (w m.sender).prepared m.stage m.value (t.prepared k);
  proposed = λ k. (w m.sender).proposed m.stage m.value (t.proposed k);
  committed = λ k. (w m.sender).committed m.value (t.committed k);
}

pub ext_with_message : (m : Message) (s : Station) → Ext s (with_message m s)
ext_with_message m s = record {
  prepared = λ x y e. e;
  proposed = λ x y e. e;
  committed = λ b e. e;
  stage = omega arith;
  input = λ x h. refl;
}

all_three : (a b c : Bool) → (a && (b && c)) ≡ true → (a ≡ true) × (b ≡ true) × (c ≡ true)
all_three a b c e = let p = and_split a (b && c) e in let q = and_split b c p.1 in (p.0, q.0, q.1)

only_if : (b : Bool) (v w : ℕ) → cond b (some v) none ≡ some w → (b ≡ true) × (v ≡ w)
only_if true v w e = (refl, cc)
only_if false v w e = cc

passes_first : (P : ℕ → Bool) (x y : Option ℕ) → option_map_or P x false ≡ true
    → option_map_or P (option_or x y) false ≡ true
passes_first P none y e = cc
passes_first P (some v) y e = e

module _ (m : Message) where
  -- what a message adds to what was heard
  abbrev pub prepares : ℕ → ℕ → ℕ → Bool
  prepares σ v j = eqb m.kind 1 && (eqb m.stage σ && (eqb m.value v && eqb m.sender j))

  abbrev pub proposes : ℕ → ℕ → Option ℕ
  proposes σ j = cond (eqb m.kind 2 && (eqb m.stage σ && eqb m.sender j)) (some m.value) none

  abbrev pub commits : ℕ → ℕ → Bool
  commits b j = eqb m.kind 3 && (eqb m.value b && eqb m.sender j)

  said_prepare : (W : World) (σ v j : ℕ) → (m.sender ≡ j → Sent W m) → prepares σ v j ≡ true → (W j).prepared σ v ≡ true
  said_prepare W σ v j t h =
      let f = all_three (eqb m.kind 1) (eqb m.stage σ) (eqb m.value v && eqb m.sender j) h in
      let p = and_split (eqb m.value v) (eqb m.sender j) f.2 in
      let a = eqb-true m.stage σ f.1 in
      let b = eqb-true m.value v p.0 in
      let c = eqb-true m.sender j p.1 in
      let x = (t c).prepared (eqb-true m.kind 1 f.0) in
      rw (a, b, c) at x

  said_propose : (W : World) (σ v j : ℕ) → (m.sender ≡ j → Sent W m) → proposes σ j ≡ some v → (W j).proposed σ ≡ some v
  said_propose W σ v j t h =
      let y = only_if (eqb m.kind 2 && (eqb m.stage σ && eqb m.sender j)) m.value v h in
      let f = all_three (eqb m.kind 2) (eqb m.stage σ) (eqb m.sender j) y.0 in
      let a = eqb-true m.stage σ f.1 in
      let b = y.1 in
      let c = eqb-true m.sender j f.2 in
      let x = (t c).proposed (eqb-true m.kind 2 f.0) in
      rw (a, b, c) at x

  said_commit : (W : World) (b j : ℕ) → (m.sender ≡ j → Sent W m) → commits b j ≡ true → (W j).committed ≡ some b
  said_commit W b j t h =
      let f = all_three (eqb m.kind 3) (eqb m.value b) (eqb m.sender j) h in
      let a = eqb-true m.value b f.1 in
      let c = eqb-true m.sender j f.2 in
      let x = (t c).committed (eqb-true m.kind 3 f.0) in
      rw (a, c) at x

  pub good_with_message : (g : Setting) → Laws g.rule → (W W' : World) (i : ℕ) (s : Station) → Grow W W' → Good g W i s
      → (Own g m.sender → Sent W m) → Good g W' i (with_message m s)
  good_with_message g laws W W' i s w d₀ t₀ =
      let d = good_grows g W W' i s w d₀ in
      let t : (j : ℕ) → Own g j → m.sender ≡ j → Sent W' m = λ j o e. sent_grows W W' m w (t₀ (rw e o)) in
      record {
        heard = record {
          heard_prepare = λ σ v j o e. elim (or_cases (s.preparers σ v j) (prepares σ v j) e) [
            | inl h ↦ d.heard_prepare σ v j o h
            | inr h ↦ said_prepare W' σ v j (t j o) h
          ];
          heard_propose = λ σ v j o e. elim (option_or-cases (s.proposal σ j) (proposes σ j) v e) [
            | inl h ↦ d.heard_propose σ v j o h
            | inr h ↦ said_propose W' σ v j (t j o) h.1
          ];
          heard_commit = λ b j o e. elim (or_cases (s.committers b j) (commits b j) e) [
            | inl h ↦ d.heard_commit b j o h
            | inr h ↦ said_commit W' b j (t j o) h
          ];
        };
        prepared = d.prepared;
        admits = record {
          admitted = λ x y e. let k = d.admitted x y e in (
            k.0,
            k.1,
            quorum_grows g laws (s.preparers x y) ((with_message m s).preparers x y)
                (λ j h z. or_left (s.preparers x y j) (prepares x y j) z) k.2,
          );
          first_admitted = d.first_admitted;
          first_proposed = d.first_proposed;
        };
        course = d.course;
        opened = d.opened;
        closed = λ x h. let k = d.closed x h in record {
          set = k.set;
          quorum = quorum_grows g laws (proposers s x k.set)
              (proposers (with_message m s) x k.set)
              (λ j h z. passes_first k.set (s.proposal x j) (proposes x j) z) k.quorum;
          admitted = k.admitted;
          next = k.next;
          graded = k.graded;
        };
        grades = d.grades;
        decided = λ b e. blocking_grows g laws (s.committers b) ((with_message m s).committers b)
            (λ j h z. or_left (s.committers b j) (commits b j) z) (d.decided b e);
      }
