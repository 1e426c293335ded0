-- What is true of an own station in every run, and how it lasts while other stations go on.
use Rattle.std.proofs.Common.{◌≡◌, ℕ, ◌+◌, ◌-◌, ◌*◌, ◌%◌, ◌<◌, ◌≤◌, Bool, true, false, ◌&&◌, Some as some, Option, refl, ap, ◌∙◌, subst, inl, inr, arith}
use Rattle.std.specs.Option.{option_map_or}
use Rattle.agreement.specs.Families.{Blocking, Quorum}
use Rattle.agreement.specs.Station.{Setting, stages, Own, Station, fresh_station, Grading, bit, next_input, grading_made}
use Rattle.agreement.specs.Networks.{Network}
use Rattle.agreement.specs.Rig.{Rig, Opened, Changes}
use Rattle.agreement.proofs.Own.{own_is}

-- an own station opens with its bit
pub opens_with : {N : Type 0} {net : Network N} {w : N} (g : Setting) (r : Rig N) → Opened net g w r → (i : ℕ) → Own g i
    → r.station i ≡ fresh_station (g.opens i)
opens_with g r h i o = h.stations i ∙ ap (λ b. fresh_station (b && g.opens i)) (own_is g i o)

abbrev pub World : Type 0
World = ℕ → Station

-- some own station had the value as its input in the stage
abbrev pub Origin : Setting → World → ℕ → ℕ → Type 0
Origin g W σ v = (k : ℕ) × Own g k × (σ ≤ (W k).stage) × ((W k).input σ ≡ v)

-- What is true of a station stands in parts, each over those of its fields that it speaks of, so that an act hands on the
-- parts that it does not touch.

-- what it heard of own stations they did
pub record Heard (g : Setting) (W : World) (who : ℕ → ℕ → ℕ → Bool) (what : ℕ → ℕ → Option ℕ) (bits : ℕ → ℕ → Bool)
    : Type 0 where
  pub heard_prepare : (σ v j : ℕ) → Own g j → who σ v j ≡ true → (W j).prepared σ v ≡ true
  pub heard_propose : (σ v j : ℕ) → Own g j → what σ j ≡ some v → (W j).proposed σ ≡ some v
  pub heard_commit : (b j : ℕ) → Own g j → bits b j ≡ true → (W j).committed ≡ some b

-- what it admitted a quorum prepared, and what it proposed it admitted first
pub record Admits (g : Setting) (who : ℕ → ℕ → ℕ → Bool) (holds : ℕ → ℕ → Bool) (says : ℕ → Option ℕ) : Type 0 where
  pub admitted : (σ v : ℕ) → holds σ v ≡ true → (σ < stages g.rules) × (v ≤ 2) × Quorum g.rule (who σ v)
  pub first_admitted : (σ v : ℕ) → says σ ≡ some v → holds σ v ≡ true
  pub first_proposed : (σ v : ℕ) → holds σ v ≡ true → (w : ℕ) × (says σ ≡ some w)

-- inputs up to a stage are values, and bits in even stages
abbrev pub Inputs : ℕ → (ℕ → ℕ) → Type 0
Inputs now input = (σ : ℕ) → σ ≤ now → (input σ ≤ 2) × (σ % 2 ≡ 0 → input σ ≤ 1)

-- its stage is no further than the end, and its inputs up to there are such
pub record Course (g : Setting) (i : ℕ) (now : ℕ) (input : ℕ → ℕ) : Type 0 where
  pub stage : now ≤ stages g.rules
  pub opened_with : input 0 ≡ bit (g.opens i)
  pub inputs : Inputs now input

-- what it has of a stage that it closed
pub record Closed (g : Setting) (what : ℕ → ℕ → Option ℕ) (holds : ℕ → ℕ → Bool) (input : ℕ → ℕ)
    (grading : ℕ → Option Grading) (σ : ℕ) : Type 0 where
  pub set : ℕ → Bool
  pub quorum : Quorum g.rule (λ j. option_map_or set (what σ j) false)
  pub admitted : (v : ℕ) → set v ≡ true → holds σ v ≡ true
  pub next : input (σ + 1) ≡ next_input g.rules σ set (input (σ - 1))
  pub graded : grading σ ≡ grading_made σ set

-- gradings and commitment come of closed stages
pub record Committed (now : ℕ) (grading : ℕ → Option Grading) (bit : Option ℕ) : Type 0 where
  pub graded : (σ : ℕ) (x : Grading) → grading σ ≡ some x → σ < now
  pub committed : (b : ℕ) → bit ≡ some b → (ρ : ℕ) × (4 * ρ + 3 < now) × (grading (4 * ρ + 3) ≡ some (some b, 2))
  pub commits : (ρ b : ℕ) → grading (4 * ρ + 3) ≡ some (some b, 2) → (c : ℕ) × (bit ≡ some c)

-- All this; and what it prepared was an own input, closed stages were opened, and a decision rests on a blocking set.
pub record Good (g : Setting) (W : World) (i : ℕ) (s : Station) : Type 0 where
  pub heard : Heard g W s.preparers s.proposal s.committers
  pub open heard use *
  pub prepared : (σ v : ℕ) → s.prepared σ v ≡ true → (σ ≤ s.stage) × (σ < stages g.rules) × (v ≤ 2) × Origin g W σ v
  pub admits : Admits g s.preparers s.admitted s.proposed
  pub open admits use *
  pub course : Course g i s.stage s.input
  pub open course use *
  pub opened : (σ : ℕ) → σ < s.stage → s.prepared σ (s.input σ) ≡ true
  pub closed : (σ : ℕ) → σ < s.stage → Closed g s.proposal s.admitted s.input s.grading σ
  pub grades : Committed s.stage s.grading s.committed
  pub open grades use *
  pub decided : (b : ℕ) → s.decision ≡ some b → Blocking g.rule (s.committers b)

-- what others rely on only grows
pub record Ext (s s' : Station) : Type 0 where
  pub prepared : (σ v : ℕ) → s.prepared σ v ≡ true → s'.prepared σ v ≡ true
  pub proposed : (σ v : ℕ) → s.proposed σ ≡ some v → s'.proposed σ ≡ some v
  pub committed : (b : ℕ) → s.committed ≡ some b → s'.committed ≡ some b
  pub stage : s.stage ≤ s'.stage
  pub input : (σ : ℕ) → σ ≤ s.stage → s'.input σ ≡ s.input σ

abbrev pub Grow : World → World → Type 0
Grow W W' = (k : ℕ) → Ext (W k) (W' k)

pub ext_refl : (s : Station) → Ext s s
ext_refl s = record {
  prepared = λ σ v e. e;
  proposed = λ σ v e. e;
  committed = λ b e. e;
  stage = omega arith;
  input = λ σ h. refl;
}

-- a fact on each station, where one changes
pub changed : (P : ℕ → Station → Type 0) (i : ℕ) (s : Station) (W W' : World) → Changes i s W W' → (k : ℕ)
    → (k ≡ i → P i s) → P k (W k) → P k (W' k)
changed P i s W W' c k new old = elim (c.1 k) [ inl h ↦ rw h (rw c.0 (new h)) | inr h ↦ rw h old ]

pub grow_changes : (i : ℕ) (s : Station) (W W' : World) → Changes i s W W' → Ext (W i) s → Grow W W'
grow_changes i s W W' c e k = changed (λ x. Ext (W x)) i s W W' c k (λ _. e) (ext_refl (W k))

pub origin_grows : (g : Setting) (W W' : World) (σ v : ℕ) → Grow W W' → Origin g W σ v → Origin g W' σ v
origin_grows g W W' σ v w o = let e = w o.0 in (o.0, o.1, omega (arith, e.stage, o.2), e.input σ o.2 ∙ o.3)

-- a station that does nothing keeps its facts
pub good_grows : (g : Setting) (W W' : World) (i : ℕ) (s : Station) → Grow W W' → Good g W i s → Good g W' i s
good_grows g W W' i s w d = record {
  heard = record {
    heard_prepare = λ σ v j o e. (w j).prepared σ v (d.heard_prepare σ v j o e);
    heard_propose = λ σ v j o e. (w j).proposed σ v (d.heard_propose σ v j o e);
    heard_commit = λ b j o e. (w j).committed b (d.heard_commit b j o e);
  };
  prepared = λ σ v e. let p = d.prepared σ v e in (p.0, p.1, p.2, origin_grows g W W' σ v w p.3);
  admits = d.admits;
  course = d.course;
  opened = d.opened;
  closed = d.closed;
  grades = d.grades;
  decided = d.decided;
}

pub good_changes : (g : Setting) (i : ℕ) (s : Station) (W W' : World) → Changes i s W W' → Ext (W i) s
    → ((k : ℕ) → Own g k → Good g W k (W k)) → (Own g i → Good g W' i s) → (k : ℕ) → Own g k → Good g W' k (W' k)
good_changes g i s W W' c e all new k o =
    changed (λ x t. Good g W' x t) i s W W' c k (λ h. new (subst (λ x. Own g x) h o))
    (good_grows g W W' k (W k) (grow_changes i s W W' c e) (all k o))

pub good_same : (g : Setting) (W W' : World) → ((k : ℕ) → W' k ≡ W k) → ((k : ℕ) → Own g k → Good g W k (W k))
    → (k : ℕ) → Own g k → Good g W' k (W' k)
good_same g W W' c all k o = rw (c k) (good_grows g W W' k (W k) (λ x. rw (c x) (ext_refl (W x))) (all k o))
