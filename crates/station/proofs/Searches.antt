-- What the searches in a station's records say of its acts.
use Rattle.std.proofs.Common.{◌≡◌, ℕ, ◌*◌, ◌<◌, ◌↔◌, Bool, true, false, cond, not, ltb, Option, Some as some, None as none, is_some, is_none, option_map, get_or, sym, refl, ap, ◌∙◌, arith, lt-ltb}
use Rattle.std.specs.Option.{option_map_or}
use Rattle.agreement.specs.Sets.{Set, holds, outside}
use Rattle.agreement.specs.Families.{Families, Laws}
use Rattle.agreement.specs.Station.{Rules, bit, Applies, opening, joining, admitting, deciding, proposers}
use Rattle.agreement.proofs.Tests.{same_truth, and_split}
use Rattle.acts.specs.declared.act.Act.{Act}
use Rattle.acts.specs.declared.act.Act.TheVariants.{Open, Join, Admit, Close, Decide}
use Rattle.acts.specs.declared.value.Value.{Value}
use Rattle.acts.specs.declared.value.ValueSet.{ValueSet}
use Rattle.acts.specs.Values.{number, values}
use Rattle.station.specs.declared.stage.StageRecord.{StageRecord}
use Rattle.station.specs.declared.station.Station.{Station}
use Rattle.station.specs.Stages.{value_of, proposal_of, if_admitted, opening_act, to_join, to_admit, FirstValue, FirstServed, backers, AreBacked, Closes}
use Rattle.station.specs.Stations.{stage_of, read}
use Rattle.station.specs.Turns.{rules_of, decides, FirstBit, FirstInStage}
use Rattle.station.proofs.Duties.{FirstValued, first_closing, none_of}

-- a proposal is an admitted value, in the model's words
some_admitted : (t : StageRecord) (o : Option Value)
    → is_some (if_admitted t o) ≡ option_map_or (λ v. (value_of t v).admitted) (option_map number o) false
some_admitted t none = refl
some_admitted t (some v) = go (value_of t (number v)).admitted
  where
    go : (b : Bool) → is_some (cond b (some v) none) ≡ b
    go true = refl
    go false = refl

-- these senders are a quorum where the proposers of admitted values are
same_quorum : (f : Families) → Laws f → (s : Station) (σ : ℕ)
    → f.wide (outside (backers f.n (stage_of s σ))) ≡ f.wide (outside (proposers (read s) σ ((read s).admitted σ)))
same_quorum f l s σ =
    same_truth (f.wide (outside X)) (f.wide (outside Y))
    (l.wide_parts (outside Y) (outside X) (λ j k t. ap not (at j k) ∙ t))
    (l.wide_parts (outside X) (outside Y) (λ j k t. ap not (sym (at j k)) ∙ t))
  where
    X : Set
    X = backers f.n (stage_of s σ)

    Y : Set
    Y = proposers (read s) σ ((read s).admitted σ)

    at : (j : ℕ) → j < f.n → X j ≡ Y j
    at j k =
        let m : ltb j f.n ≡ true = lt-ltb j f.n k in
        rw m (some_admitted (stage_of s σ) (proposal_of (stage_of s σ) j))

-- a value belongs to the set found where it is an admitted value that some sender proposed
pub is_proposal_set : (s : Station) (σ n : ℕ) (x : ValueSet) → AreBacked (stage_of s σ) n x → (v : ℕ)
    → (values x v ≡ true) ↔ (((read s).admitted σ v ≡ true) × ((j : ℕ) × (j < n) × ((read s).proposal σ j ≡ some v)))
is_proposal_set s σ n x h v = (
  λ e. let w = (h v).0 e in let p = apart (proposal_of (stage_of s σ) w.0) w.2 in (p.0, (w.0, w.1, p.1)),
  λ p. (h v).1 (p.1.0, p.1.1, join (proposal_of (stage_of s σ) p.1.0) p.0 p.1.2),
)
  where
    t : StageRecord
    t = stage_of s σ

    apart : (o : Option Value) → option_map number (if_admitted t o) ≡ some v
        → ((value_of t v).admitted ≡ true) × (option_map number o ≡ some v)
    apart none e = cc
    apart (some u) e = go (value_of t (number u)).admitted refl e
      where
        go : (b : Bool) → (value_of t (number u)).admitted ≡ b → option_map number (cond b (some u) none) ≡ some v
            → ((value_of t v).admitted ≡ true) × (option_map number (some u) ≡ some v)
        go true q e = let k : number u ≡ v = cc in (rw k at q, e)
        go false q e = cc

    join : (o : Option Value) → (value_of t v).admitted ≡ true → option_map number o ≡ some v
        → option_map number (if_admitted t o) ≡ some v
    join none a e = e
    join (some u) a e = let k : number u ≡ v = cc in let b : (value_of t (number u)).admitted ≡ true = rw k a in rw b e

undecided : (d : Option Bool) → (option_map bit d ≡ none) ↔ (is_none d ≡ true)
undecided none = (λ e. refl, λ e. refl)
undecided (some b) = (λ e. cc, λ e. cc)

-- whether a bit is decided
decides_one : (f : Families) (s : Station) (rounds : ℕ) (coin : ℕ → Bool) (b : ℕ)
    → (decides f s b ≡ false → Applies (rules_of f rounds coin) (read s) (deciding b) → ⊥)
    × (b < 2 → decides f s b ≡ true → Applies (rules_of f rounds coin) (read s) (deciding b))
decides_one f s rounds coin b =
    let u = undecided s.decision in (
      λ e y. let n = u.0 y.1 in let w = y.2 in grind arith,
      λ h e.
          let k = and_split (is_none s.decision) (not (f.wide (holds (get_or s.committers b 0)))) e in
          (omega (arith, h), u.1 k.0, grind (arith, k.1)),
    )

-- the first bit found is the first that is to be decided
pub first_decided : (f : Families) (s : Station) (rounds : ℕ) (coin : ℕ → Bool) (o : Option Bool)
    → FirstBit (decides f s) o → FirstValued (rules_of f rounds coin) (read s) deciding (option_map bit o)
first_decided f s rounds coin none h = λ b y. (decides_one f s rounds coin b).0 (h b (omega (arith, y.0))) y
first_decided f s rounds coin (some b) h = (
  (decides_one f s rounds coin (bit b)).1 (grind arith) h.0,
  λ c k y. (decides_one f s rounds coin c).0 (h.1 c k) y,
)

module _ (f : Families) (l : Laws f) (s : Station) (σ rounds : ℕ) (coin : ℕ → Bool) (t : StageRecord)
    (at : t ≡ stage_of s σ) where
  abbrev G : Rules
  G = rules_of f rounds coin

  no_joining : FirstValue (λ v. to_join f (value_of t v)) none → FirstValued G (read s) (joining σ) none
  no_joining h v p = let k = rw at at h v (omega (arith, p.2)) in grind arith

  no_admitting : FirstValue (λ v. to_admit f (value_of t v)) none → FirstValued G (read s) (admitting σ) none
  no_admitting h v p = let k = rw at at h v (omega (arith, p.2)) in grind arith

  no_opening : opening_act t σ ≡ none → (v : ℕ) → Applies G (read s) (opening σ v) → ⊥
  no_opening h v p = go ((read s).prepared σ ((read s).input σ)) refl
    where
      go : (b : Bool) → (read s).prepared σ ((read s).input σ) ≡ b → ⊥
      go true e = cc
      go false e = let k : opening_act (stage_of s σ) σ ≡ none = rw at at h in let f = rw e at k in cc

  -- in the current stage, where rules 1 to 3 do not apply, what is found by rule 4 is the first act
  pub first_closed : σ ≡ s.current → σ < 4 * rounds → opening_act t σ ≡ none → FirstServed f t σ none
      → (o : Option Act) → Closes f t σ o → FirstInStage G (read s) σ o
  first_closed current within is_open served none h = none_of G (read s) σ (no_opening is_open) (no_joining served.0) (no_admitting served.1)
      (λ P p. let k = sym (rw at at h) ∙ same_quorum f l s σ ∙ p.2 in cc)
  first_closed current within is_open served (some (Close τ x)) h =
      let q : f.wide (outside (proposers (read s) σ ((read s).admitted σ))) ≡ true = sym (same_quorum f l s σ) ∙ (rw at at h.1) in
      rw h.0 (first_closing G (read s) σ (values x) (no_opening is_open) (no_joining served.0) (no_admitting served.1)
      (current, within, q, is_proposal_set s σ f.n x (rw at at h.2)))
  first_closed current within is_open served (some (Open τ w)) h = absurd h
  first_closed current within is_open served (some (Join τ w)) h = absurd h
  first_closed current within is_open served (some (Admit τ w)) h = absurd h
  first_closed current within is_open served (some (Decide b)) h = absurd h
