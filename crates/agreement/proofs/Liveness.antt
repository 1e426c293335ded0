-- In a quiet rig with nothing missing no own station stays behind.
use Rattle.std.proofs.Common.{◌≡◌, ℕ, zero, suc, ◌+◌, ◌<◌, ◌≤◌, true, refl, inl, inr, arith}
use Rattle.agreement.specs.Messages.{Payload, prepare, propose}
use Rattle.agreement.specs.Sets.{Set, without}
use Rattle.agreement.specs.Families.{Laws, Blocking}
use Rattle.agreement.specs.Station.{Setting, stages, Own, proposers}
use Rattle.agreement.specs.Station.{Idle, opening, joining, admitting, closing}
use Rattle.agreement.specs.Law.{Wide}
use Rattle.agreement.specs.Theorems.{Does}
use Rattle.agreement.proofs.Tests.{true_or_false, and_not, same?, apart_lt}
use Rattle.agreement.proofs.Own.{blocking_grows, own_quorum}
use Rattle.agreement.proofs.Facts.{World, Good}
use Rattle.agreement.proofs.Says.{Hears}
use Rattle.agreement.proofs.Due.{some_proposal_set}

-- the own stations that prepared the value
abbrev pub own_preparers : Setting → World → ℕ → ℕ → Set
own_preparers g W σ v = without (λ j. (W j).prepared σ v) g.guest

pub is_preparer : (g : Setting) (W : World) (σ v j : ℕ) → Own g j → (W j).prepared σ v ≡ true
    → own_preparers g W σ v j ≡ true
is_preparer g W σ v j o e = rw (e, o.1) refl

-- all own stations came to the stage
abbrev pub AllAt : Setting → World → ℕ → Type 0
AllAt g W σ = (k : ℕ) → Own g k → σ ≤ (W k).stage

-- some value was prepared by a blocking set of own stations, and so was each admitted one
pub record Live (g : Setting) (W : World) (σ : ℕ) : Type 0 where
  pub one : (v : ℕ) × (v ≤ 2) × Blocking g.rule (own_preparers g W σ v)
  pub spread : (i v : ℕ) → Own g i → (W i).admitted σ v ≡ true → Blocking g.rule (own_preparers g W σ v)

-- what own stations did all have heard, and none has an act to do
pub record Rest (g : Setting) (W : World) : Type 0 where
  pub good : (k : ℕ) → Own g k → Good g W k (W k)
  pub hears : (i j : ℕ) → Own g i → Own g j → (p : Payload) → Does (W j) p → Hears (W i) j p
  pub idle : (i : ℕ) → Own g i → Idle g.rules (W i)

module _ (g : Setting) (laws : Laws g.rule) (wide : Wide g) (W : World) (rest : Rest g W) where
  -- whoever came to a stage has prepared its input there
  pub opened : (i σ : ℕ) → Own g i → σ ≤ (W i).stage → σ < stages g.rules → (W i).prepared σ ((W i).input σ) ≡ true
  opened i σ o h e = elim (same? σ (W i).stage) [
    | inl k ↦ elim (true_or_false ((W i).prepared σ ((W i).input σ))) [
      | inl t ↦ t
      | inr t ↦ absurd (rest.idle i o (opening σ ((W i).input σ)) (k, e, refl, t))
    ]
    | inr k ↦ (rest.good i o).opened σ (apart_lt σ (W i).stage h k)
  ]

  -- a value that a blocking set of own stations prepared, all prepare and admit
  joins : (i σ v : ℕ) → Own g i → σ ≤ (W i).stage → σ < stages g.rules → v ≤ 2 → Blocking g.rule (own_preparers g W σ v)
      → (W i).prepared σ v ≡ true
  joins i σ v o h e l blocks = elim (true_or_false ((W i).prepared σ v)) [
    | inl t ↦ t
    | inr t ↦ absurd (rest.idle i o (joining σ v) (
      h,
      e,
      l,
      t,
      blocking_grows g laws (own_preparers g W σ v) ((W i).preparers σ v)
          (λ j k p. let q = and_not ((W j).prepared σ v) (g.guest j) p in
          rest.hears i j o (k, q.1) (prepare σ v) q.0) blocks,
    ))
  ]

  admits : (i σ v : ℕ) → Own g i → AllAt g W σ → σ < stages g.rules → v ≤ 2 → Blocking g.rule (own_preparers g W σ v)
      → (W i).admitted σ v ≡ true
  admits i σ v o here e l blocks = elim (true_or_false ((W i).admitted σ v)) [
    | inl t ↦ t
    | inr t ↦ absurd (rest.idle i o (admitting σ v) (
      here i o,
      e,
      l,
      t,
      own_quorum g laws wide ((W i).preparers σ v)
          (λ j oj. rest.hears i j o oj (prepare σ v) (joins j σ v oj (here j oj) e l blocks)),
    ))
  ]

  -- then all close
  closes : (σ : ℕ) → AllAt g W σ → σ < stages g.rules → Live g W σ → (i : ℕ) → Own g i → σ + 1 ≤ (W i).stage
  closes σ here e live i o = elim (same? σ (W i).stage) [
    | inl k ↦ let set = some_proposal_set g.rules (W i) σ in
        let q = own_quorum g laws wide (proposers (W i) σ ((W i).admitted σ)) backs in
        absurd (rest.idle i o (closing σ set.0) (k, e, q, set.1))
    | inr k ↦ omega (arith, apart_lt σ (W i).stage (here i o) k)
  ]
    where
      backs : (j : ℕ) → Own g j → proposers (W i) σ ((W i).admitted σ) j ≡ true
      backs j oj =
          let one = live.one in
          let a = admits j σ one.0 oj here e one.1 one.2 in
          let w = (rest.good j oj).first_proposed σ one.0 a in
          let aw = (rest.good j oj).first_admitted σ w.0 w.1 in
          let mine = admits i σ w.0 o here e ((rest.good j oj).admitted σ w.0 aw).1 (live.spread j w.0 oj aw) in
          let said = rest.hears i j o oj (propose σ w.0) w.1 in
          rw said mine

  -- where every stage that all come to is live, all come to the end
  pub finished : ((σ : ℕ) → AllAt g W σ → σ < stages g.rules → Live g W σ) → (k : ℕ) → Own g k → (W k).stage ≡ stages g.rules
  finished live k o = let a = all_come (stages g.rules) (omega arith) k o in let b = (rest.good k o).stage in omega arith
    where
      all_come : (τ : ℕ) → τ ≤ stages g.rules → AllAt g W τ
      all_come zero h k o = omega arith
      all_come (suc τ) h k o =
          let here = all_come τ (omega arith) in
          let c = closes τ here (omega arith) (live τ here (omega arith)) k o in omega arith
