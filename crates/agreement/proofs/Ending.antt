-- All own stations come to the end, and when they decide.
use Rattle.std.proofs.Common.{◌≡◌, ℕ, ◌+◌, ◌-◌, ◌*◌, ◌/◌, ◌%◌, ◌<◌, ◌≤◌, Bool, true, false, not, ◌&&◌, ◌||◌, eqb, ◌⊎◌, Some as some, None as none, Option, sym, refl, ap, ◌∙◌, subst, inl, inr, arith, eqb-true}
use Rattle.agreement.specs.Messages.{commit}
use Rattle.agreement.specs.Sets.{Set, Part, outside, without}
use Rattle.agreement.specs.Families.{Laws, Blocking}
use Rattle.agreement.specs.Station.{Setting, size, stages, Own, bit, grading_of, bit_at_two, deciding}
use Rattle.agreement.specs.Law.{Wide, Narrow}
use Rattle.agreement.proofs.Tests.{and_not, same?}
use Rattle.agreement.proofs.Closing.{bit_le, follows_one, makes_odd, at_two_is}
use Rattle.agreement.proofs.Own.{blocking_grows, blocking_own, own_blocks, own_part_blocks, one_side_blocks}
use Rattle.agreement.proofs.Facts.{World, Good}
use Rattle.agreement.proofs.Says.{committed_bit}
use Rattle.agreement.proofs.Safety.{Unanimous, admitted_origin, unanimous_on, unanimous_graded, one_bit}
use Rattle.agreement.proofs.Liveness.{own_preparers, is_preparer, AllAt, Live, Rest, opened}

zero_or_one : (x : ℕ) → x ≤ 1 → (eqb x 0 || eqb x 1) ≡ true
zero_or_one x h = grind arith

blank_or_not : (x : ℕ) → (eqb x 2 || not (eqb x 2)) ≡ true
blank_or_not x = grind arith

not_blank : (x : ℕ) → x ≤ 2 → not (eqb x 2) ≡ true → x ≤ 1
not_blank x h e = grind arith

odd_of : (x : ℕ) → eqb (x % 2) 0 ≡ false → x % 2 ≡ 1
odd_of x h = grind arith

module _ (g : Setting) (laws : Laws g.rule) (wide : Wide g) (W : World) (rest : Rest g W) where
  -- own stations of a blocking set with one input have prepared it
  openers : (σ u : ℕ) (Z : Set) → AllAt g W σ → σ < stages g.rules → ((j : ℕ) → Own g j → Z j ≡ true → (W j).input σ ≡ u)
      → Blocking g.rule (without Z g.guest) → Blocking g.rule (own_preparers g W σ u)
  openers σ u Z here e z blocks = blocking_grows g laws (without Z g.guest) (own_preparers g W σ u) within blocks
    where
      within : Part (size g.rules) (without Z g.guest) (own_preparers g W σ u)
      within j l t =
          let k = and_not (Z j) (g.guest j) t in let o : Own g j = (l, k.1) in
          is_preparer g W σ u j o (subst (λ x. (W j).prepared σ x ≡ true) (z j o k.0)
          (opened g laws wide W rest j σ o (here j o) e))

  -- opened alike
  pub live_alike : (σ : ℕ) (b : Bool) → Unanimous g W σ (bit b) → AllAt g W σ → σ < stages g.rules → Live g W σ
  live_alike σ b u here e =
      let blocks : Blocking g.rule (own_preparers g W σ (bit b)) = own_blocks g laws wide (own_preparers g W σ (bit b))
      (λ j o. is_preparer g W σ (bit b) j o (subst (λ x. (W j).prepared σ x ≡ true) (u j o (here j o))
      (opened g laws wide W rest j σ o (here j o) e))) in
      let low = bit_le b in
      record {
        one = (bit b, omega arith, blocks);
        spread = λ i v o a. let k = admitted_origin g laws wide W rest.good i σ v o a in
            subst (λ x. Blocking g.rule (own_preparers g W σ x)) (sym (u k.0 k.1 k.2) ∙ k.3) blocks;
      }

  -- guests narrow
  module _ (narrow : Narrow g) where
    spread_narrow : (σ i v : ℕ) → Own g i → (W i).admitted σ v ≡ true → Blocking g.rule (own_preparers g W σ v)
    spread_narrow σ i v o a = blocking_grows g laws (without ((W i).preparers σ v) g.guest) (own_preparers g W σ v)
        (λ j l t. let k = and_not ((W i).preparers σ v j) (g.guest j) t in let oj : Own g j = (l, k.1) in
        is_preparer g W σ v j oj ((rest.good i o).heard_prepare σ v j oj k.0))
        (own_part_blocks g laws narrow ((W i).preparers σ v) ((rest.good i o).admitted σ v a).2)

    -- of own stations with one of two kinds of input one kind blocks
    kinds : (X Y : Set) → ((j : ℕ) → Own g j → (X j || Y j) ≡ true)
        → Blocking g.rule (without X g.guest) ⊎ Blocking g.rule (without Y g.guest)
    kinds X Y all = one_side_blocks g laws narrow (without X g.guest) (without Y g.guest)
        (λ j o. rw o.1 (outsiders (X j) (Y j) (all j o)))
      where
        outsiders : (a b : Bool) → (a || b) ≡ true → ((a && true) || (b && true)) ≡ true
        outsiders a b e = grind arith

    -- the own stations with an input u
    abbrev with_input : ℕ → ℕ → Set
    with_input σ u j = eqb ((W j).input σ) u

    one_even : (σ : ℕ) → σ % 2 ≡ 0 → AllAt g W σ → σ < stages g.rules
        → (v : ℕ) × (v ≤ 2) × Blocking g.rule (own_preparers g W σ v)
    one_even σ even here e = elim (kinds (with_input σ 0) (with_input σ 1)
        (λ j o. zero_or_one ((W j).input σ) (((rest.good j o).inputs σ (here j o)).1 even))) [
          | inl h ↦ (0, omega arith, openers σ 0 (with_input σ 0) here e (λ j _ t. eqb-true ((W j).input σ) 0 t) h)
          | inr h ↦ (1, omega arith, openers σ 1 (with_input σ 1) here e (λ j _ t. eqb-true ((W j).input σ) 1 t) h)
        ]

    -- own inputs of an odd stage that are not blank are one
    one_input : (σ j k : ℕ) → σ % 2 ≡ 1 → AllAt g W σ → Own g j → Own g k → not (with_input σ 2 j) ≡ true
        → not (with_input σ 2 k) ≡ true → (W j).input σ ≡ (W k).input σ
    one_input σ j k odd here oj ok p q =
        one_bit g laws wide W rest.good narrow σ odd ((W j).input σ) ((W k).input σ)
        (j, oj, here j oj, refl) (k, ok, here k ok, refl)
        (not_blank ((W j).input σ) ((rest.good j oj).inputs σ (here j oj)).0 p)
        (not_blank ((W k).input σ) ((rest.good k ok).inputs σ (here k ok)).0 q)

    one_odd : (σ : ℕ) → σ % 2 ≡ 1 → AllAt g W σ → σ < stages g.rules
        → (v : ℕ) × (v ≤ 2) × Blocking g.rule (own_preparers g W σ v)
    one_odd σ odd here e = elim (kinds (with_input σ 2) (outside (with_input σ 2)) (λ j o. blank_or_not ((W j).input σ))) [
      | inl h ↦ (2, omega arith, openers σ 2 (with_input σ 2) here e (λ j _ t. eqb-true ((W j).input σ) 2 t) h)
      | inr h ↦
          let m = blocking_own g laws wide (without (outside (with_input σ 2)) g.guest) h in
          let k = and_not (not (with_input σ 2 m.0)) (g.guest m.0) m.2 in (
            (W m.0).input σ,
            ((rest.good m.0 m.1).inputs σ (here m.0 m.1)).0,
            openers σ ((W m.0).input σ) (outside (with_input σ 2)) here e
                (λ j o t. one_input σ j m.0 odd here o m.1 t k.0) h,
          )
    ]

    pub live_narrow : (σ : ℕ) → AllAt g W σ → σ < stages g.rules → Live g W σ
    live_narrow σ here e = record {
      one = elim (same? (σ % 2) 0) [ inl h ↦ one_even σ h here e | inr h ↦ one_odd σ (odd_of σ h) here e ];
      spread = λ i v o a. spread_narrow σ i v o a;
    }

  -- all committed, and to one bit: all decide
  pub all_decide : ((i : ℕ) → Own g i → (b : ℕ) × ((W i).committed ≡ some b))
      → ((i k b c : ℕ) → Own g i → Own g k → (W i).committed ≡ some b → (W k).committed ≡ some c → b ≡ c)
      → (i : ℕ) → Own g i → (b : ℕ) × ((W i).decision ≡ some b)
  all_decide cmt agree i o = go (W i).decision refl
    where
      blocks : Blocking g.rule ((W i).committers (cmt i o).0)
      blocks = own_blocks g laws wide ((W i).committers (cmt i o).0)
          (λ j oj. let c = cmt j oj in rest.hears i j o oj (commit (cmt i o).0)
          (c.1 ∙ ap {B = Option ℕ} some (agree j i c.0 (cmt i o).0 oj o c.1 (cmt i o).1)))

      go : (d : Option ℕ) → (W i).decision ≡ d → (b : ℕ) × ((W i).decision ≡ some b)
      go none e = absurd (rest.idle i o (deciding (cmt i o).0)
          (committed_bit g W i (W i) (cmt i o).0 (rest.good i o) (cmt i o).1, e, blocks))
      go (some b) e = (b, e)

  -- one input in the second half of a round, which all have finished: all committed
  pub all_committed : (ρ : ℕ) (b : Bool) → Unanimous g W (4 * ρ + 2) (bit b) → ((k : ℕ) → Own g k → 4 * ρ + 3 < (W k).stage)
      → (i : ℕ) → Own g i → (c : ℕ) × ((W i).committed ≡ some c)
  all_committed ρ b u done i o =
      let v = unanimous_on g laws wide W rest.good (4 * ρ + 2) b u (4 * ρ + 3) (omega arith) in
      (rest.good i o).commits ρ (bit b)
      (unanimous_graded g laws wide W rest.good (4 * ρ + 3) b v (omega arith) i o (done i o))

-- a coin that no first grading opposes makes the next inputs alike
pub coin_unanimous : (g : Setting) (W : World) → ((k : ℕ) → Own g k → Good g W k (W k)) → (ρ : ℕ)
    → ((i b : ℕ) → Own g i → (W i).grading (4 * ρ + 2 * 0 + 1) ≡ some (some b, 2) → b ≡ bit (g.coin ρ))
    → Unanimous g W (4 * ρ + 2) (bit (g.coin ρ))
coin_unanimous g W all ρ un i o h =
    let k : 4 * ρ + 1 < (W i).stage = omega arith in
    let c = (all i o).closed (4 * ρ + 1) k in
    let here : 4 * ρ + 1 + 1 ≡ 4 * ρ + 2 = omega arith in
    let there : 4 * ρ + 1 ≡ 4 * ρ + 2 * 0 + 1 = omega arith in
    let round : (4 * ρ + 1) / 4 ≡ ρ = omega arith in
    let made : (W i).grading (4 * ρ + 2 * 0 + 1) ≡ some (grading_of c.set)
    = ap (W i).grading (sym there) ∙ (c.graded ∙ makes_odd (4 * ρ + 1) c.set (omega arith)) in
    let is : bit_at_two (grading_of c.set) (bit (g.coin ρ)) ≡ bit (g.coin ρ)
    = at_two_is (grading_of c.set).0 (grading_of c.set).1 (bit (g.coin ρ))
    (λ b p q. un i b o (made ∙ (λ x. some (p x, q x)))) in
    let coin : bit_at_two (grading_of c.set) (bit (g.coin ((4 * ρ + 1) / 4))) ≡ bit (g.coin ρ)
    = ap (λ (x : ℕ). bit_at_two (grading_of c.set) (bit (g.coin x))) round ∙ is in
    ap (W i).input (sym here)
    ∙ (c.next ∙ (follows_one g.rules (4 * ρ + 1) c.set ((W i).input (4 * ρ + 1 - 1)) (omega arith) ∙ coin))
