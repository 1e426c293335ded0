-- What the invariant says of closed stages, gradings, commitments and decisions.
use Rattle.std.proofs.Common.{◌≡◌, ℕ, zero, suc, ◌+◌, ◌-◌, ◌*◌, ◌%◌, ◌<◌, ◌≤◌, Bool, true, ◌||◌, Some as some, None as none, Option, sym, ap, ◌∙◌, subst, inl, inr, add-one, arith}
use Rattle.agreement.specs.Families.{Laws}
use Rattle.agreement.specs.Station.{Setting, Own, Grading, bit, grading_of, bit_at_two, proposers}
use Rattle.agreement.specs.Law.{Wide, Narrow, Near}
use Rattle.agreement.proofs.Tests.{same?, and_split, or_cases, le_or}
use Rattle.agreement.proofs.Closing.{passes_value, bit_of, makes_odd, follows_even, follows_three, grade_bit}
use Rattle.agreement.proofs.Closing.{two_follows, only_grade, sole_only, share_near, beside_two}
use Rattle.agreement.proofs.Own.{blocking_own, quorum_own, quorums_share}
use Rattle.agreement.proofs.Facts.{World, Origin, Good}

grading_bit : Option Grading → Option ℕ
grading_bit none = none
grading_bit (some x) = x.0

-- all own stations that came to the stage have this input there
abbrev pub Unanimous : Setting → World → ℕ → ℕ → Type 0
Unanimous g W σ v = (i : ℕ) → Own g i → σ ≤ (W i).stage → (W i).input σ ≡ v

module _ (g : Setting) (laws : Laws g.rule) (wide : Wide g) (W : World)
    (all : (k : ℕ) → Own g k → Good g W k (W k)) where
  -- what was admitted was an own station's input
  pub admitted_origin : (i σ v : ℕ) → Own g i → (W i).admitted σ v ≡ true → Origin g W σ v
  admitted_origin i σ v o a =
      let h = quorum_own g laws wide ((W i).preparers σ v) ((all i o).admitted σ v a).2 in
      ((all h.0 h.1).prepared σ v ((all i o).heard_prepare σ v h.0 h.1 h.2)).3

  -- and so was each value of a closed set, which holds some value
  set_origin : (i σ v : ℕ) (o : Own g i) (h : σ < (W i).stage) → ((all i o).closed σ h).set v ≡ true → Origin g W σ v
  set_origin i σ v o h e = admitted_origin i σ v o (((all i o).closed σ h).admitted v e)

  set_holds : (i σ : ℕ) (o : Own g i) (h : σ < (W i).stage) → (v : ℕ) × (((all i o).closed σ h).set v ≡ true)
  set_holds i σ o h =
      let c = (all i o).closed σ h in
      let q = quorum_own g laws wide (proposers (W i) σ c.set) c.quorum in
      let a = passes_value c.set ((W i).proposal σ q.0) q.2 in
      (a.0, a.2)

  -- where all own inputs are one bit, every closed set holds that bit alone
  unanimous_set : (σ : ℕ) (b : Bool) → Unanimous g W σ (bit b) → (i : ℕ) (o : Own g i) (h : σ < (W i).stage)
      → grading_of ((all i o).closed σ h).set ≡ (some (bit b), 2)
  unanimous_set σ b u i o h =
      let P = ((all i o).closed σ h).set in
      let only : (w : ℕ) → P w ≡ true → w ≡ bit b
      = λ w e. let k = set_origin i σ w o h e in sym k.3 ∙ u k.0 k.1 k.2 in
      let n = set_holds i σ o h in
      only_grade P b (subst (λ x. P x ≡ true) (only n.0 n.1) n.1) only

  unanimous_next : (σ : ℕ) (b : Bool) → Unanimous g W σ (bit b) → Unanimous g W (σ + 1) (bit b)
  unanimous_next σ b u i o h =
      let k : σ < (W i).stage = omega arith in
      let c = (all i o).closed σ k in
      c.next ∙ two_follows g.rules σ c.set ((W i).input (σ - 1)) (bit b) (unanimous_set σ b u i o k)

  -- unanimity lasts
  pub unanimous_on : (σ : ℕ) (b : Bool) → Unanimous g W σ (bit b) → (τ : ℕ) → σ ≤ τ → Unanimous g W τ (bit b)
  unanimous_on σ b u zero h = let e : σ ≡ 0 = omega arith in subst (λ x. Unanimous g W x (bit b)) e u
  unanimous_on σ b u (suc τ) h = elim (same? σ (suc τ)) [
    | inl e ↦ subst (λ x. Unanimous g W x (bit b)) e u
    | inr e ↦ let k : σ ≤ τ = grind arith in
        subst (λ x. Unanimous g W x (bit b)) (add-one τ) (unanimous_next τ b (unanimous_on σ b u τ k))
  ]

  pub unanimous_graded : (σ : ℕ) (b : Bool) → Unanimous g W σ (bit b) → σ % 2 ≡ 1 → (i : ℕ) → Own g i → σ < (W i).stage
      → (W i).grading σ ≡ some (some (bit b), 2)
  unanimous_graded σ b u odd i o h =
      let c = (all i o).closed σ h in
      c.graded ∙ (makes_odd σ c.set odd ∙ ap {B = Option Grading} some (unanimous_set σ b u i o h))

  -- a grading is that of the closed set
  graded_set : (i σ : ℕ) (x : Grading) (o : Own g i) → σ % 2 ≡ 1 → (W i).grading σ ≡ some x
      → (h : σ < (W i).stage) × (grading_of ((all i o).closed σ h).set ≡ x)
  graded_set i σ x o odd e =
      let h = (all i o).graded σ x e in let c = (all i o).closed σ h in
      let q : some (grading_of c.set) ≡ some x = sym (makes_odd σ c.set odd) ∙ (sym c.graded ∙ e) in
      (h, cc)

  -- a decision is an own station's commitment
  pub decided_committed : (i b : ℕ) → Own g i → (W i).decision ≡ some b → (j : ℕ) × Own g j × ((W j).committed ≡ some b)
  decided_committed i b o e =
      let h = blocking_own g laws wide ((W i).committers b) ((all i o).decided b e) in
      (h.0, h.1, (all i o).heard_commit b h.0 h.1 h.2)

  -- opened alike
  pub alike_graded : (v : Bool) → Unanimous g W 0 (bit v) → (i σ : ℕ) (x : Grading) → Own g i → σ % 2 ≡ 1
      → (W i).grading σ ≡ some x → x ≡ (some (bit v), 2)
  alike_graded v u i σ x o odd e =
      let h = (all i o).graded σ x e in
      let q = unanimous_graded σ v (unanimous_on 0 v u σ (omega arith)) odd i o h in
      cc

  pub alike_committed : (v : Bool) → Unanimous g W 0 (bit v) → (i b : ℕ) → Own g i → (W i).committed ≡ some b → b ≡ bit v
  alike_committed v u i b o e =
      let k = (all i o).committed b e in
      let q : ◌≡◌ {A = Grading} (some b, 2) (some (bit v), 2)
      = alike_graded v u i (4 * k.0 + 3) (some b, 2) o (omega arith) k.2 in
      cc (ap (λ (x : Grading). x.0) q)

  module _ (narrow : Narrow g) where
    -- two closed sets of a stage share a value
    sets_share : (i k σ : ℕ) (oi : Own g i) (ok : Own g k) (hi : σ < (W i).stage) (hk : σ < (W k).stage)
        → (v : ℕ) × (v ≤ 2) × (((all i oi).closed σ hi).set v ≡ true) × (((all k ok).closed σ hk).set v ≡ true)
    sets_share i k σ oi ok hi hk =
        let a = (all i oi).closed σ hi in let b = (all k ok).closed σ hk in
        let m = quorums_share g laws narrow
        (proposers (W i) σ a.set) (proposers (W k) σ b.set) a.quorum b.quorum in
        let both = and_split (proposers (W i) σ a.set m.0) (proposers (W k) σ b.set m.0) m.2 in
        let x = passes_value a.set ((W i).proposal σ m.0) both.0 in
        let y = passes_value b.set ((W k).proposal σ m.0) both.1 in
        let ex = (all i oi).heard_propose σ x.0 m.0 m.1 x.1 in
        let ey = (all k ok).heard_propose σ y.0 m.0 m.1 y.1 in
        let e : x.0 ≡ y.0 = cc (sym ex ∙ ey) in (
          x.0,
          ((all i oi).admitted σ x.0 (a.admitted x.0 x.2)).1,
          x.2,
          subst (λ z. b.set z ≡ true) (sym e) y.2,
        )

    -- an input after an even stage is what its set left
    even_input : (σ u : ℕ) → σ % 2 ≡ 1 → (a : Origin g W σ u)
        → (h : σ - 1 < (W a.0).stage) × (u ≡ bit_at_two (grading_of ((all a.0 a.1).closed (σ - 1) h).set) 2)
    even_input σ u odd a =
        let here : (σ - 1) + 1 ≡ σ = omega arith in
        let h : σ - 1 < (W a.0).stage = omega (arith, a.2) in
        let P = (all a.0 a.1).closed (σ - 1) h in (
          h,
          sym a.3 ∙ (ap (W a.0).input (sym here)
              ∙ (P.next ∙ follows_even g.rules (σ - 1) P.set ((W a.0).input (σ - 1 - 1)) (omega arith))),
        )

    -- in an odd stage the own inputs hold one bit
    pub one_bit : (σ : ℕ) → σ % 2 ≡ 1 → (u v : ℕ) → Origin g W σ u → Origin g W σ v → u ≤ 1 → v ≤ 1 → u ≡ v
    one_bit σ odd u v a b hu hv =
        let p = even_input σ u odd a in let q = even_input σ v odd b in
        let P = ((all a.0 a.1).closed (σ - 1) p.0).set in
        let Q = ((all b.0 b.1).closed (σ - 1) q.0).set in
        let s = sets_share a.0 b.0 (σ - 1) a.1 b.1 p.0 q.0 in
        let ep : s.0 ≡ bit_at_two (grading_of P) 2 = sole_only P (subst (λ x. x ≤ 1) p.1 hu) s.0 s.1 s.2 in
        let eq : s.0 ≡ bit_at_two (grading_of Q) 2 = sole_only Q (subst (λ x. x ≤ 1) q.1 hv) s.0 s.1 s.3 in
        p.1 ∙ (sym ep ∙ (eq ∙ sym q.1))

    -- gradings agree
    pub gradings_near : (i k σ : ℕ) (x y : Grading) → Own g i → Own g k → σ % 2 ≡ 1
        → (W i).grading σ ≡ some x → (W k).grading σ ≡ some y → Near x y
    gradings_near i k σ x y oi ok odd ex ey =
        let a = graded_set i σ x oi odd ex in let b = graded_set k σ y ok odd ey in
        let P = ((all i oi).closed σ a.0).set in let Q = ((all k ok).closed σ b.0).set in
        let from : (u : ℕ) → (P u || Q u) ≡ true → Origin g W σ u
        = λ u e. elim (or_cases (P u) (Q u) e) [
          | inl t ↦ set_origin i σ u oi a.0 t
          | inr t ↦ set_origin k σ u ok b.0 t
        ] in
        let s = sets_share i k σ oi ok a.0 b.0 in
        let r : Near (grading_of P) (grading_of Q) = share_near P Q
        (λ u v eu ev hu hv. one_bit σ odd u v (from u eu) (from v ev) hu hv) s.0 s.1 s.2 s.3 in
        subst (λ z. Near x z) b.1 (subst (λ z. Near z (grading_of Q)) a.1 r)

    -- after a grade 2 in the second half all go on with that bit
    two_unanimous : (i ρ b : ℕ) → Own g i → (W i).grading (4 * ρ + 3) ≡ some (some b, 2) → Unanimous g W (4 * ρ + 3 + 1) b
    two_unanimous i ρ b o e k ok h =
        let hk : 4 * ρ + 3 < (W k).stage = omega arith in
        let c = (all k ok).closed (4 * ρ + 3) hk in
        let made : (W k).grading (4 * ρ + 3) ≡ some (grading_of c.set)
        = c.graded ∙ makes_odd (4 * ρ + 3) c.set (omega arith) in
        let a = gradings_near i k (4 * ρ + 3) (some b, 2) (grading_of c.set) o ok (omega arith) e made in
        c.next ∙ (follows_three g.rules (4 * ρ + 3) c.set ((W k).input (4 * ρ + 3 - 1)) (omega arith)
        ∙ beside_two b (grading_of c.set) ((W k).input (4 * ρ + 3 - 1)) a)

    graded_bit : (i σ b m : ℕ) → Own g i → σ % 2 ≡ 1 → (W i).grading σ ≡ some (some b, m) → b ≤ 1
    graded_bit i σ b m o odd e =
        let a = graded_set i σ (some b, m) o odd e in let c = (all i o).closed σ a.0 in
        grade_bit (c.set 0) (c.set 1) (c.set 2) b (ap (λ (x : Grading). x.0) a.1)

    -- two grades 2 of second halves carry one bit, whichever round came first
    later : (i k ρ π b c : ℕ) → Own g i → Own g k → ρ ≤ π → (W i).grading (4 * ρ + 3) ≡ some (some b, 2)
        → (W k).grading (4 * π + 3) ≡ some (some c, 2) → b ≡ c
    unfolding grading_bit
    later i k ρ π b c oi ok h ei ek = elim (same? ρ π) [
      | inl e ↦
          let ek' = subst (λ x. (W k).grading (4 * x + 3) ≡ some (some c, 2)) (sym e) ek in
          let a = gradings_near i k (4 * ρ + 3) (some b, 2) (some c, 2) oi ok (omega arith) ei ek' in
          let t = a.2 (omega arith) (omega arith) in
          cc (t.1, t.2)
      | inr e ↦
          let β = bit_of b (graded_bit i (4 * ρ + 3) b 2 oi (omega arith) ei) in
          let u : Unanimous g W (4 * ρ + 3 + 1) (bit β.0)
          = subst (λ x. Unanimous g W (4 * ρ + 3 + 1) x) (sym β.1) (two_unanimous i ρ b oi ei) in
          let l : ρ < π = grind arith in
          let v = unanimous_on (4 * ρ + 3 + 1) β.0 u (4 * π + 3) (omega arith) in
          let q = unanimous_graded (4 * π + 3) β.0 v (omega arith) k ok ((all k ok).graded (4 * π + 3) (some c, 2) ek) in
          let z : ◌≡◌ {A = Option Grading} (some (some c, 2)) (some (some (bit β.0), 2)) = sym ek ∙ q in
          let y : c ≡ bit β.0 = cc (ap grading_bit z) in
          sym (y ∙ β.1)
    ]

    pub commits_agree : (i k b c : ℕ) → Own g i → Own g k → (W i).committed ≡ some b → (W k).committed ≡ some c → b ≡ c
    commits_agree i k b c oi ok ei ek =
        let p = (all i oi).committed b ei in let q = (all k ok).committed c ek in
        elim (le_or p.0 q.0) [
          | inl h ↦ later i k p.0 q.0 b c oi ok h p.2 q.2
          | inr h ↦ sym (later k i q.0 p.0 c b ok oi h q.2 p.2)
        ]

    pub decisions_agree : (i k b c : ℕ) → Own g i → Own g k → (W i).decision ≡ some b → (W k).decision ≡ some c → b ≡ c
    decisions_agree i k b c oi ok ei ek =
        let p = decided_committed i b oi ei in let q = decided_committed k c ok ek in
        commits_agree p.0 q.0 b c p.1 q.1 p.2 q.2
