-- A turn keeps the invariant.
use Rattle.std.proofs.Common.{◌≡◌, ℕ, ◌<◌, Bool, true, ◌⊎◌, Some as some, None as none, Option, sym, refl, ◌∙◌, subst, inl, inr, arith}
use Rattle.agreement.specs.declared.message.Message.{Message}
use Rattle.agreement.specs.Messages.{Payload, message}
use Rattle.agreement.specs.Families.{Laws}
use Rattle.agreement.specs.Station.{Setting, size, Own, Station, Act, opening, joining, admitting, closing, deciding}
use Rattle.agreement.specs.Station.{Applies, Due, after_act, speech}
use Rattle.agreement.specs.Networks.{Network}
use Rattle.agreement.specs.Rig.{Rig, Broadcasts, Acted}
use Rattle.agreement.specs.Law.{Wide}
use Rattle.agreement.specs.Theorems.{Does}
use Rattle.agreement.proofs.Tests.{true_or_false}
use Rattle.agreement.proofs.Own.{blocking_own}
use Rattle.agreement.proofs.Facts.{World, Origin, Good, Ext, Grow, changed, grow_changes, good_changes}
use Rattle.agreement.proofs.Acts.{ext_with_prepared, good_with_prepared, ext_admitting, good_admitting}
use Rattle.agreement.proofs.Acts.{ext_deciding, good_deciding}
use Rattle.agreement.proofs.Close.{ext_closing, good_closing}
use Rattle.agreement.proofs.Hear.{Sent, sent_grows}
use Rattle.agreement.proofs.Says.{Hears, hears_after, speaks, says_true, sent_does}
use Rattle.agreement.proofs.Copies.{Waits}
use Rattle.agreement.proofs.Waiting.{saying_keeps, saying_new, saying_all}
use Rattle.agreement.proofs.Invariant.{Inv}

pub ext_after : (g : Setting) (a : Act) (s : Station) → Applies g.rules s a → Ext s (after_act g.rules a s)
ext_after g (opening σ v) s p = ext_with_prepared σ v s
ext_after g (joining σ v) s p = ext_with_prepared σ v s
ext_after g (admitting σ v) s p = ext_admitting g σ v s
ext_after g (closing σ P) s p = ext_closing g.rules σ P s p.0
ext_after g (deciding b) s p = ext_deciding g b s

-- a stage is closed only once its input is prepared
pub was_opened : (g : Setting) (s : Station) (σ : ℕ) (P : ℕ → Bool) → Due g.rules s (closing σ P)
    → s.prepared σ (s.input σ) ≡ true
was_opened g s σ P d = elim (true_or_false (s.prepared σ (s.input σ))) [
  | inl t ↦ t
  | inr t ↦ absurd (d.1 (opening σ (s.input σ)) (inr (refl, inr (refl, inl (omega arith)))) (d.0.0, d.0.1, refl, t))
]

module _ (g : Setting) (laws : Laws g.rule) (wide : Wide g) where
  -- what a blocking set prepared, an own station had as its input
  joined : (W : World) → ((k : ℕ) → Own g k → Good g W k (W k)) → (i σ v : ℕ) → Own g i → Applies g.rules (W i) (joining σ v)
      → Origin g W σ v
  joined W all i σ v o p =
      let h = blocking_own g laws wide ((W i).preparers σ v) p.4 in
      ((all h.0 h.1).prepared σ v ((all i o).heard_prepare σ v h.0 h.1 h.2)).3

  good_after : (W W' : World) → Grow W W' → ((k : ℕ) → Own g k → Good g W k (W k)) → (i : ℕ) → Own g i → (a : Act)
      → Due g.rules (W i) a → Good g W' i (after_act g.rules a (W i))
  good_after W W' w all i o (opening σ v) d =
      let at = d.0.0 in let e = d.0.2 in let b = ((all i o).inputs σ (omega arith)).0 in
      good_with_prepared g W W' i σ v (W i) w (all i o) (omega arith) d.0.1 (omega (arith, b, e))
      (i, o, omega arith, sym e)
  good_after W W' w all i o (joining σ v) d =
      good_with_prepared g W W' i σ v (W i) w (all i o) (omega (arith, d.0.0)) d.0.1 d.0.2
      (joined W all i σ v o d.0)
  good_after W W' w all i o (admitting σ v) d =
      good_admitting g σ v (W i) W W' i w (all i o) d.0.1 d.0.2 d.0.4
  good_after W W' w all i o (closing σ P) d =
      good_closing g σ P (W i) laws W W' i w (all i o) d.0.0 d.0.1 d.0.2 d.0.3 (was_opened g (W i) σ P d)
  good_after W W' w all i o (deciding b) d = good_deciding g W W' i b (W i) w (all i o) d.0.2

-- what a turn leaves waiting
module _ {N : Type 0} (net : Network N) (g : Setting) (i : ℕ) (r r' : Rig N) where
  spoken_keeps : (o : Option Payload) → Broadcasts net g i o r r' → (x : Message) → Waits x (net.waiting r.network)
      → Waits x (net.waiting r'.network)
  spoken_keeps none c x h = subst (λ (w : N). Waits x (net.waiting w)) (sym c.0) h
  spoken_keeps (some p) c x h = saying_keeps net g i p r.network (size g.rules) r'.network c.0 c.1 x h

  pub spoken_new : (o : Option Payload) → Broadcasts net g i o r r' → (x : Message) → Waits x (net.waiting r'.network)
      → Waits x (net.waiting r.network) ⊎ ((p : Payload) × (o ≡ some p) × ((a : ℕ) × (a < size g.rules) × (x ≡ message i a p)))
  spoken_new none c x h = inl (subst (λ (w : N). Waits x (net.waiting w)) c.0 h)
  spoken_new (some p) c x h = elim (saying_new net g i p r.network (size g.rules) r'.network c.0 c.1 x h) [
    | inl u ↦ inl u
    | inr u ↦ inr (p, refl, u)
  ]

  spoken_missing : (o : Option Payload) → Broadcasts net g i o r r' → r'.missing ≡ 0 → r.missing ≡ 0
  spoken_missing none c e = sym c.2 ∙ e
  spoken_missing (some p) c e = omega (arith, c.3)

  spoken_all : (p : Payload) → Broadcasts net g i (some p) r r' → r'.missing ≡ 0 → (a : ℕ) → Own g a
      → Waits (message i a p) (net.waiting r'.network)
  spoken_all p c e a o = saying_all net g i p r.network (size g.rules) r'.network c.0 c.1 (omega (arith, c.3)) a o.0 o

module _ {N : Type 0} {net : Network N} (g : Setting) (laws : Laws g.rule) (wide : Wide g) (i : ℕ) (a : Act) (r r' : Rig N)
    (v : Inv net g r) (c : Acted net g i a r r') where
  grow : Grow r.station r'.station
  grow = grow_changes i (after_act g.rules a (r.station i)) r.station r'.station c.stations
      (ext_after g a (r.station i) c.due.0)

  hears_still : (k j : ℕ) (p : Payload) → Hears (r.station k) j p → Hears (r'.station k) j p
  hears_still k j p =
      changed (λ x t. Hears (r.station x) j p → Hears t j p) i (after_act g.rules a (r.station i)) r.station r'.station
      c.stations k (λ _. hears_after g.rules a (r.station i) j p) (λ h. h)

  -- what is new was said
  does_was : (j : ℕ) (p : Payload) → Does (r'.station j) p
      → Does (r.station j) p ⊎ ((j ≡ i) × (speech a (r.station i) ≡ some p))
  does_was j p d =
      elim (changed (λ x t. Does t p → Does (r.station x) p ⊎ (speech a (r.station i) ≡ some p)) i
      (after_act g.rules a (r.station i)) r.station r'.station c.stations j (λ _. speaks g.rules a (r.station i) p) (λ h. inl h) d) [
        | inl h ↦ inl h
        | inr h ↦ elim (c.stations.1 j) [
          | inl e ↦ inr (e, h)
          | inr e ↦ inl (subst (λ x. Does x p) e d)
        ]
      ]

  -- what was said is so
  new_sent : (p : Payload) (k : ℕ) → speech a (r.station i) ≡ some p → Sent r'.station (message i k p)
  new_sent p k e = sent_does r'.station i k p
      (subst (λ x. Does x p) (sym c.stations.0) (says_true g.rules a (r.station i) p e))

  pub inv_acted : Inv net g r'
  inv_acted = record {
    good = good_changes g i (after_act g.rules a (r.station i)) r.station r'.station c.stations
        (ext_after g a (r.station i) c.due.0) v.good
        (λ o. good_after g laws wide r.station r'.station grow v.good i o a c.due);
    waiting = λ x h o. elim (spoken_new net g i r r' (speech a (r.station i)) c.posts x h) [
      | inl u ↦ sent_grows r.station r'.station x grow (v.waiting x u o)
      | inr u ↦ subst (λ (y : Message). Sent r'.station y) (sym u.2.2) (new_sent u.0 u.2.0 u.1)
    ];
    last = λ x h o. sent_grows r.station r'.station x grow (v.last x (sym c.last ∙ h) o);
    reach = λ z k j ok oj p d. elim (does_was j p d) [
      | inl d ↦ elim (v.reach (spoken_missing net g i r r' (speech a (r.station i)) c.posts z) k j ok oj p d) [
        | inl h ↦ inl (hears_still k j p h)
        | inr h ↦ inr (spoken_keeps net g i r r' (speech a (r.station i)) c.posts (message j k p) h)
      ]
      | inr n ↦ inr (subst (λ x. Waits (message x k p) (net.waiting r'.network)) (sym n.0)
          (spoken_all net g i r r' p (subst (λ (x : Option Payload). Broadcasts net g i x r r') n.1 c.posts) z k ok))
    ];
  }
