-- Closing a stage keeps the station's facts.
use Rattle.std.proofs.Common.{◌≡◌, ℕ, ◌+◌, ◌-◌, ◌*◌, ◌/◌, ◌<◌, ◌≤◌, Bool, true, false, eqb, Some as some, None as none, Option, sym, refl, ap, ◌∙◌, inl, inr, arith}
use Rattle.std.specs.Option.{option_map_or}
use Rattle.agreement.specs.Families.{Laws, Quorum}
use Rattle.agreement.specs.Station.{Rules, Setting, stages, Station, Grading, next_input, grading_made, bit_to_commit, grading_of}
use Rattle.agreement.specs.Station.{after_act, closing, proposers, ProposalSet}
use Rattle.agreement.proofs.Tests.{same?}
use Rattle.agreement.proofs.Closing.{option_or-cases, option_or-keeps, option_or-some, follows_bits, makes_odd}
use Rattle.agreement.proofs.Closing.{commits_is, commits_does}
use Rattle.agreement.proofs.Own.{quorum_grows}
use Rattle.agreement.proofs.Facts.{World, Inputs, Closed, Good, Ext, Grow, good_grows}
use Rattle.agreement.proofs.Acts.{put_at, put_off}

-- every backer's value is in the proposal set
backed : (P Q : ℕ → Bool) (o : Option ℕ) → ((v : ℕ) → o ≡ some v → P v ≡ true → Q v ≡ true) → option_map_or P o false ≡ true
    → option_map_or Q o false ≡ true
backed P Q none h e = e
backed P Q (some v) h e = h v refl e

at_most : (x σ : ℕ) → x ≤ σ + 1 → eqb x (σ + 1) ≡ false → x ≤ σ
at_most x σ h e = grind arith

module _ (g : Rules) (σ : ℕ) (P : ℕ → Bool) (s : Station) where
  -- the input of another stage is as it was
  pub input_off : (x : ℕ) → x ≤ σ → (after_act g (closing σ P) s).input x ≡ s.input x
  input_off x h = put_off s.input (σ + 1) (next_input g σ P (s.input (σ - 1))) x (omega arith)

  input_at : (after_act g (closing σ P) s).input (σ + 1) ≡ next_input g σ P (s.input (σ - 1))
  input_at = put_at s.input (σ + 1) (next_input g σ P (s.input (σ - 1))) (σ + 1) refl

  grading_off : (x : ℕ) → ¬ (x ≡ σ) → (after_act g (closing σ P) s).grading x ≡ s.grading x
  grading_off x h = put_off s.grading σ (grading_made σ P) x h

  grading_at : (after_act g (closing σ P) s).grading σ ≡ grading_made σ P
  grading_at = put_at s.grading σ (grading_made σ P) σ refl

  pub ext_closing : σ ≡ s.stage → Ext s (after_act g (closing σ P) s)
  ext_closing e = record {
    prepared = λ x y e. e;
    proposed = λ x y e. e;
    committed = λ b q. option_or-keeps s.committed (bit_to_commit σ P) b q;
    stage = omega arith;
    input = λ x h. input_off x (omega arith);
  }

  -- inputs are values, and bits in even stages
  pub inputs_closing : Inputs σ s.input → Inputs (σ + 1) (after_act g (closing σ P) s).input
  inputs_closing d x h = elim (same? x (σ + 1)) [
    | inl e ↦ rw e (rw input_at
        (follows_bits g σ P (s.input (σ - 1)) (λ o. (d (σ - 1) (omega arith)).1 (omega arith))))
    | inr e ↦ let k = at_most x σ h e in rw (input_off x k) (d x k)
  ]

module _ (g : Setting) (σ : ℕ) (P : ℕ → Bool) (s : Station) where
  -- what closing leaves of a stage that is closed
  abbrev ClosedAfter : ℕ → Type 0
  ClosedAfter = let t = after_act g.rules (closing σ P) s in Closed g t.proposal t.admitted t.input t.grading

  closed_before : (x : ℕ) → x < σ → Closed g s.proposal s.admitted s.input s.grading x → ClosedAfter x
  closed_before x h k = record {
    set = k.set;
    quorum = k.quorum;
    admitted = k.admitted;
    next = input_off g.rules σ P s (x + 1) (omega arith) ∙ (k.next ∙ sym (ap (next_input g.rules x k.set) (input_off g.rules σ P s (x - 1) (omega arith))));
    graded = grading_off g.rules σ P s x (omega arith) ∙ k.graded;
  }

  closed_now : Laws g.rule → Quorum g.rule (proposers s σ (s.admitted σ)) → ProposalSet g.rules s σ P
      → ClosedAfter σ
  closed_now laws q val = record {
    set = P;
    quorum = quorum_grows g laws (proposers s σ (s.admitted σ)) (proposers s σ P)
        (λ j h e. backed (s.admitted σ) P (s.proposal σ j) (λ v p a. (val v).1 (a, (j, h, p))) e) q;
    admitted = λ v e. ((val v).0 e).0;
    next = input_at g.rules σ P s ∙ sym (ap (next_input g.rules σ P) (input_off g.rules σ P s (σ - 1) (omega arith)));
    graded = grading_at g.rules σ P s;
  }

  pub good_closing : Laws g.rule → (W W' : World) (i : ℕ) → Grow W W' → Good g W i s → σ ≡ s.stage → σ < stages g.rules
      → Quorum g.rule (proposers s σ (s.admitted σ)) → ProposalSet g.rules s σ P → s.prepared σ (s.input σ) ≡ true
      → Good g W' i (after_act g.rules (closing σ P) s)
  good_closing laws W W' i w d₀ at below q val opened =
      let d = good_grows g W W' i s w d₀ in
      record {
        heard = d.heard;
        prepared = λ x y e. let p = d.prepared x y e in (omega (arith, p.0), p.1, p.2, p.3);
        admits = d.admits;
        course = record {
          stage = omega arith;
          opened_with = input_off g.rules σ P s 0 (omega arith) ∙ d.opened_with;
          inputs = inputs_closing g.rules σ P s (λ x h. d.inputs x (omega arith));
        };
        opened = λ x h. elim (same? x σ) [
          | inl e ↦ rw (input_off g.rules σ P s x (omega arith)) (rw e opened)
          | inr e ↦ let k : x < σ = grind arith in rw (input_off g.rules σ P s x (omega arith)) (d.opened x (omega arith))
        ];
        closed = λ x h. elim (same? x σ) [
          | inl e ↦ rw e (closed_now laws q val)
          | inr e ↦ let k : x < σ = grind arith in closed_before x k (d.closed x (omega arith))
        ];
        grades = record {
          graded = λ x y e. elim (same? x σ) [
            | inl h ↦ omega arith
            | inr h ↦ let k : x < s.stage = d.graded x y (rw h at e) in omega arith
          ];
          committed = λ b e. elim (option_or-cases s.committed (bit_to_commit σ P) b e) [
            | inl p ↦ let k = d.committed b p in
                (k.0, omega (arith, k.1), grading_off g.rules σ P s (4 * k.0 + 3) (omega (arith, k.1)) ∙ k.2)
            | inr p ↦ let k = commits_is σ P b p.1 in let h : 4 * (σ / 4) + 3 ≡ σ = omega (arith, k.0) in (
              σ / 4,
              omega arith,
              rw h (grading_at g.rules σ P s ∙ (makes_odd σ P (omega (arith, k.0)) ∙ ap {B = Option Grading} some k.1)),
            )
          ];
          commits = λ ρ b e. elim (same? (4 * ρ + 3) σ) [
            | inl h ↦
                let t : some (grading_of P) ≡ some (some b, 2)
                = sym (makes_odd σ P (omega arith)) ∙ (sym (grading_at g.rules σ P s) ∙ (rw h at e)) in
                let u : grading_of P ≡ (some b, 2) = cc in
                let f = option_or-some s.committed b in
                (f.0, rw (commits_does σ P b (omega arith) u) f.1)
            | inr h ↦ let f = d.commits ρ b (rw h at e) in (f.0, option_or-keeps s.committed (bit_to_commit σ P) f.0 f.1)
          ];
        };
        decided = d.decided;
      }
