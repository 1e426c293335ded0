-- Opening, joining, admitting and deciding keep the station's facts.
use Rattle.std.proofs.Common.{◌≡◌, ℕ, ◌<◌, ◌≤◌, true, ◌&&◌, eqb, Some as some, sym, refl, ◌∙◌, subst, inl, inr, arith}
use Rattle.std.specs.Option.{option_or}
use Rattle.agreement.specs.Families.{Blocking, Quorum}
use Rattle.agreement.specs.Station.{Rules, Setting, stages, Station, put, with_prepared, after_act, admitting, deciding}
use Rattle.agreement.proofs.Tests.{added, or_left, or_right, and_both, eqb_is, eqb_not, same?}
use Rattle.agreement.proofs.Closing.{option_or-cases, option_or-keeps, option_or-some}
use Rattle.agreement.proofs.Facts.{World, Origin, Good, Ext, Grow, good_grows, origin_grows}

pub put_at : {A : Type 0} (f : ℕ → A) (σ : ℕ) (a : A) (x : ℕ) → x ≡ σ → put f σ a x ≡ a
put_at f σ a x h = rw (eqb_is x σ h) refl

pub put_off : {A : Type 0} (f : ℕ → A) (σ : ℕ) (a : A) (x : ℕ) → ¬ (x ≡ σ) → put f σ a x ≡ f x
put_off f σ a x h = rw (eqb_not x σ h) refl

pub ext_with_prepared : (σ v : ℕ) (s : Station) → Ext s (with_prepared σ v s)
ext_with_prepared σ v s = record {
  prepared = λ x y e. or_left (s.prepared x y) (eqb x σ && eqb y v) e;
  proposed = λ x y e. e;
  committed = λ b e. e;
  stage = omega arith;
  input = λ x h. refl;
}

pub good_with_prepared : (g : Setting) (W W' : World) (i σ v : ℕ) (s : Station) → Grow W W' → Good g W i s
    → σ ≤ s.stage → σ < stages g.rules → v ≤ 2 → Origin g W σ v → Good g W' i (with_prepared σ v s)
good_with_prepared g W W' i σ v s w d₀ a b c o =
    let d = good_grows g W W' i s w d₀ in
    record {
      heard = d.heard;
      prepared = λ x y e. elim (added (s.prepared x y) x y σ v e) [
        | inl t ↦ d.prepared x y t
        | inr q ↦ rw (q.0, q.1) (a, b, c, origin_grows g W W' σ v w o)
      ];
      admits = d.admits;
      course = d.course;
      opened = λ x h. or_left (s.prepared x (s.input x)) (eqb x σ && eqb (s.input x) v) (d.opened x h);
      closed = d.closed;
      grades = d.grades;
      decided = d.decided;
    }

pub ext_deciding : (g : Setting) (b : ℕ) (s : Station) → Ext s (after_act g.rules (deciding b) s)
ext_deciding g b s = record {
  prepared = λ x y e. e;
  proposed = λ x y e. e;
  committed = λ b e. e;
  stage = omega arith;
  input = λ x h. refl;
}

pub good_deciding : (g : Setting) (W W' : World) (i b : ℕ) (s : Station) → Grow W W' → Good g W i s
    → Blocking g.rule (s.committers b) → Good g W' i (after_act g.rules (deciding b) s)
good_deciding g W W' i b s w d₀ h =
    let d = good_grows g W W' i s w d₀ in
    record {
      heard = d.heard;
      prepared = d.prepared;
      admits = d.admits;
      course = d.course;
      opened = d.opened;
      closed = d.closed;
      grades = d.grades;
      decided = λ c e. let q : b ≡ c = cc in subst (λ x. Blocking g.rule (s.committers x)) q h;
    }

pub proposed_at : (g : Rules) (σ v : ℕ) (s : Station) (x : ℕ) → x ≡ σ
    → (after_act g (admitting σ v) s).proposed x ≡ option_or (s.proposed σ) (some v)
proposed_at g σ v s x h = put_at s.proposed σ (option_or (s.proposed σ) (some v)) x h

module _ (g : Setting) (σ v : ℕ) (s : Station) where
  still_admitted : (x y : ℕ) → s.admitted x y ≡ true → (after_act g.rules (admitting σ v) s).admitted x y ≡ true
  still_admitted x y e = or_left (s.admitted x y) (eqb x σ && eqb y v) e

  pub ext_admitting : Ext s (after_act g.rules (admitting σ v) s)
  ext_admitting = record {
    prepared = λ x y e. e;
    proposed = λ x y e. elim (same? x σ) [
      | inl h ↦ proposed_at g.rules σ v s x h ∙ option_or-keeps (s.proposed σ) (some v) y (subst (λ z. s.proposed z ≡ some y) h e)
      | inr h ↦ rw h e
    ];
    committed = λ b e. e;
    stage = omega arith;
    input = λ x h. refl;
  }

  pub good_admitting : (W W' : World) (i : ℕ) → Grow W W' → Good g W i s → σ < stages g.rules → v ≤ 2
      → Quorum g.rule (s.preparers σ v) → Good g W' i (after_act g.rules (admitting σ v) s)
  good_admitting W W' i w d₀ a b c =
      let d = good_grows g W W' i s w d₀ in
      record {
        heard = d.heard;
        prepared = d.prepared;
        admits = record {
          admitted = λ x y e. elim (added (s.admitted x y) x y σ v e) [
            | inl t ↦ d.admitted x y t
            | inr q ↦ rw (q.0, q.1) (a, b, c)
          ];
          first_admitted = λ x y e. elim (same? x σ) [
            | inl h ↦ elim (option_or-cases (s.proposed σ) (some v) y (sym (proposed_at g.rules σ v s x h) ∙ e)) [
              | inl p ↦ rw h (still_admitted σ y (d.first_admitted σ y p))
              | inr p ↦ or_right (s.admitted x y) (eqb x σ && eqb y v)
                  (and_both (eqb_is x σ h) (eqb_is y v (sym (cc p.1))))
            ]
            | inr h ↦ still_admitted x y (d.first_admitted x y (rw h at e))
          ];
          first_proposed = λ x y e. elim (same? x σ) [
            | inl h ↦ let f = option_or-some (s.proposed σ) v in (f.0, proposed_at g.rules σ v s x h ∙ f.1)
            | inr h ↦ elim (added (s.admitted x y) x y σ v e) [
              | inl t ↦ let f = d.first_proposed x y t in (f.0, rw h f.1)
              | inr q ↦ cc (eqb_is x σ q.0)
            ]
          ];
        };
        course = d.course;
        opened = d.opened;
        closed = λ x h. let k = d.closed x h in record {
          set = k.set;
          quorum = k.quorum;
          admitted = λ y t. still_admitted x y (k.admitted y t);
          next = k.next;
          graded = k.graded;
        };
        grades = d.grades;
        decided = d.decided;
      }
