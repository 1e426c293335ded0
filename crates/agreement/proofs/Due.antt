-- At most one act is due, and one is due where any applies: the acts that apply are numbered in their order.
use Rattle.std.proofs.Common.{◌≡◌, ℕ, zero, suc, ◌+◌, ◌-◌, ◌*◌, ◌/◌, ◌%◌, ◌<◌, ◌≤◌, Bool, true, false, cond, eqb, ◌⊎◌, ◌↔◌, Some as some, Option, sym, refl, ap, ◌∙◌, subst, inl, inr, arith}
use Rattle.std.specs.Option.{option_map_or}
use Rattle.agreement.specs.Families.{Quorum}
use Rattle.agreement.specs.Station.{Rules, size, stages, Station, ProposalSet, proposers, Idle}
use Rattle.agreement.specs.Station.{Act, opening, joining, admitting, closing, deciding}
use Rattle.agreement.specs.Station.{Applies, place, Before}
use Rattle.agreement.specs.Theorems.{OneActDue, DueOrIdle, Served, IdleIsServed}
use Rattle.agreement.proofs.Tests.{true_or_false, same_truth}
use Rattle.agreement.proofs.Sets.{find, last_or}

-- a test for what is decided
pub test : {A : Type 0} → A ⊎ (A → ⊥) → (b : Bool) × ((b ≡ true) ↔ A)
test (inl a) = (true, (λ e. a, λ a. refl))
test (inr k) = (false, (λ e. cc, λ a. absurd (k a)))

-- the least number that P holds of, or P holds of none below n
least : (P : ℕ → Type 0) → ((k : ℕ) → P k ⊎ (P k → ⊥)) → (n : ℕ)
    → ((k : ℕ) × P k × ((j : ℕ) → j < k → P j → ⊥)) ⊎ ((j : ℕ) → j < n → P j → ⊥)
least P decide zero = inr (λ j h. absurd (omega arith))
least P decide (suc n) = elim (least P decide n) [
  | inl k ↦ inl k
  | inr below ↦ elim (decide n) [
    | inl p ↦ inl (n, p, below)
    | inr k ↦ inr (λ j h. last_or (λ i. P i → ⊥) n j h (below j) k)
  ]
]

-- what passes the test for v is v
is_value : (v : ℕ) (o : Option ℕ) → option_map_or (eqb v) o false ≡ true → o ≡ some v
is_value v o e = grind arith

-- whether a value belongs to a stage's proposal set
backed : (g : Rules) (s : Station) (σ v : ℕ)
    → let A = (s.admitted σ v ≡ true) × ((j : ℕ) × (j < size g) × (s.proposal σ j ≡ some v)) in A ⊎ (A → ⊥)
backed g s σ v = let f = find (size g) (λ j. option_map_or (eqb v) (s.proposal σ j) false) in grind (arith, is_value)

-- each stage has a proposal set
pub some_proposal_set : (g : Rules) (s : Station) (σ : ℕ) → (P : ℕ → Bool) × ProposalSet g s σ P
some_proposal_set g s σ = (λ v. (test (backed g s σ v)).0, λ v. (test (backed g s σ v)).1)

-- an act's row: its stage, or the number of stages for rule 5
abbrev row : Rules → Act → ℕ
row g a = cond (eqb (place a).0 0) (place a).1 (stages g)

-- an act's number: 15 to a row, of which 3 to a rule
abbrev number : Rules → Act → ℕ
number g a = 15 * row g a + (3 * ((place a).2 - 1) + (place a).3)

-- the bounds of the place of an act that applies
abbrev Within : Rules → Act → Type 0
Within g a =
    let x = place a in
    (((x.0 ≡ 0) × (x.1 < stages g)) ⊎ ((x.0 ≡ 1) × (x.1 ≡ 0))) × (1 ≤ x.2) × (x.2 ≤ 5) × (x.3 ≤ 2)

-- these acts' numbers are bounded
number_below : (g : Rules) (a : Act) → Within g a → number g a < 15 * stages g + 15
number_below g a w = grind arith

-- such a number gives the row, the rule less 1 and the value
number_gives : (g : Rules) (a : Act) → Within g a
    → (number g a / 15 ≡ row g a) × (number g a % 15 / 3 ≡ (place a).2 - 1) × (number g a % 3 ≡ (place a).3)
number_gives g a w = omega arith

-- these numbers keep the order
number_grows : (g : Rules) (a b : Act) → Within g a → Within g b → Before a b → number g a < number g b
number_grows g a b v w h = grind arith

-- acts neither of which is before the other have one number
number_same : (g : Rules) (a b : Act) → (Before a b → ⊥) → (Before b a → ⊥) → number g a ≡ number g b
number_same g a b p q = grind arith

module _ (g : Rules) (s : Station) where
  -- an act that applies is within the bounds
  within : (a : Act) → Applies g s a → Within g a
  within a p = grind arith

  -- the one act that can apply, by its row, its rule less 1 and its value
  abbrev by : ℕ → ℕ → ℕ → Act
  by σ zero v = opening σ (s.input σ)
  by σ (suc zero) v = joining σ v
  by σ (suc (suc zero)) v = admitting σ v
  by σ (suc (suc (suc zero))) v = closing σ (some_proposal_set g s σ).0
  by σ (suc (suc (suc (suc r)))) v = deciding v

  -- whether it applies
  applies? : (σ r v : ℕ) → Applies g s (by σ r v) ⊎ (Applies g s (by σ r v) → ⊥)
  applies? σ (suc (suc (suc zero))) v = let p = (some_proposal_set g s σ).1 in grind arith
  applies? σ r v = grind arith

  -- an act that applies is that one
  by_place : (a : Act) → Applies g s a → by (row g a) ((place a).2 - 1) (place a).3 ≡ a
  by_place (opening σ v) p = ap (opening σ) (sym p.2)
  by_place (closing σ P) p =
      let Q = some_proposal_set g s σ in
      ap (closing σ) (λ i v. same_truth (Q.0 v) (P v) (λ t. (p.3 v).1 ((Q.1 v).0 t)) (λ t. (Q.1 v).1 ((p.3 v).0 t)) i)
  by_place a p = refl

  -- the act with a number
  abbrev act : ℕ → Act
  act k = by (k / 15) (k % 15 / 3) (k % 3)

  -- an act that applies is the one with its number
  act_number : (a : Act) → Applies g s a → act (number g a) ≡ a
  act_number a p =
      let k = number_gives g a (within a p) in
      (λ i. by (k.0 i) (k.1 i) (k.2 i)) ∙ by_place a p

  -- k is the number of an act that applies
  abbrev Used : ℕ → Type 0
  Used k = Applies g s (act k) × (number g (act k) ≡ k)

  -- whether it is
  used? : (k : ℕ) → Used k ⊎ (Used k → ⊥)
  used? k = let d = applies? (k / 15) (k % 15 / 3) (k % 3) in grind arith

  -- the number of an act that applies is used
  used : (a : Act) → Applies g s a → Used (number g a)
  used a p = let e = act_number a p in (subst (Applies g s) (sym e) p, ap (number g) e)

  -- an act that applies before the act with a number has a lower one
  lower : (k : ℕ) → Used k → (a : Act) → Applies g s a → Before a (act k) → number g a < k
  lower k u a p h = let n = number_grows g a (act k) (within a p) (within (act k) u.0) h in omega arith

-- two acts that are due have one number
pub one_act_due : OneActDue
one_act_due g s a b p q =
    let e = number_same g a b (λ h. q.1 a h p.0) (λ h. p.1 b h q.0) in
    sym (act_number g s a p.0) ∙ ap (act g s) e ∙ act_number g s b q.0

-- the act with the least number is due
pub due_or_idle : DueOrIdle
due_or_idle g s = elim (least (Used g s) (used? g s) (15 * stages g + 15)) [
  | inl (k, u, below) ↦ inl (act g s k, (u.0, λ a h p. below (number g a) (lower g s k u a p h) (used g s a p)))
  | inr below ↦ inr (λ a p. below (number g a) (number_below g a (within g s a p)) (used g s a p))
]

-- where no act applies, what the rules ask for is done
idle_served : (g : Rules) (s : Station) → Idle g s → Served g s
idle_served g s idle = record {
  opened = λ l. elim (true_or_false (s.prepared s.stage (s.input s.stage))) [
    | inl t ↦ t
    | inr t ↦ absurd (idle (opening s.stage (s.input s.stage)) (refl, l, refl, t))
  ];
  joined = λ σ v a l k h. elim (true_or_false (s.prepared σ v)) [
    | inl t ↦ t
    | inr t ↦ absurd (idle (joining σ v) (a, l, k, t, h))
  ];
  admitted = λ σ v a l k h. elim (true_or_false (s.admitted σ v)) [
    | inl t ↦ t
    | inr t ↦ absurd (idle (admitting σ v) (a, l, k, t, h))
  ];
  unbacked = λ l q. let P = some_proposal_set g s s.stage in idle (closing s.stage P.0) (refl, l, q, P.1);
  decided = λ b l h e. idle (deciding b) (l, e, h);
}

-- and where it is done, none applies
served_idle : (g : Rules) (s : Station) → Served g s → (a : Act) → Applies g s a → ⊥
served_idle g s d (opening σ v) p =
    let o = d.opened (omega (arith, p.0, p.1)) in cc ((rw (sym p.0, sym p.2) at o), p.3)
served_idle g s d (joining σ v) p = cc ((d.joined σ v p.0 p.1 p.2 p.4), p.3)
served_idle g s d (admitting σ v) p = cc ((d.admitted σ v p.0 p.1 p.2 p.4), p.3)
served_idle g s d (closing σ P) p =
    d.unbacked (omega (arith, p.0, p.1)) (subst (λ x. Quorum g.rule (proposers s x (s.admitted x))) p.0 p.2)
served_idle g s d (deciding b) p = d.decided b p.0 p.2 p.1

pub idle_is_served : IdleIsServed
idle_is_served g s = (idle_served g s, served_idle g s)
