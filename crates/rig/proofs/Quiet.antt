-- When a rig is quiet.
use Rattle.std.proofs.Common.{◌≡◌, ℕ, ◌+◌, ◌<◌, Bool, true, false, cond, ◌⊎◌, List, [], ◌∷◌, refl, ap, ◌∙◌, subst, inl, inr, arith}
use Rattle.std.specs.List.{count_by}
use Rattle.std.proofs.lemmas.List.Sums.{sum_by-cons}
use Rattle.agreement.specs.declared.message.Message.{Message}
use Rattle.agreement.specs.Messages.{copies}
use Rattle.agreement.specs.Station.{Setting, Own, is_own, Idle}
use Rattle.agreement.specs.Networks.{Network}
use Rattle.agreement.specs.Rig.{Rig}
use Rattle.agreement.specs.Law.{Quiet}
use Rattle.rig.specs.Settings.{between}
use Rattle.agreement.proofs.Tests.{true_or_false, and_split, and_both}
use Rattle.agreement.proofs.Own.{own_is}
use Rattle.agreement.proofs.Copies.{Waits, nothing_waits, waits_head, waits_tail, waits_cases}

module _ (P : Message → Bool) where
  count_cons : (x : Message) (w : List Message) → count_by P (x ∷ w) ≡ cond (P x) 1 0 + count_by P w
  count_cons x w = sum_by-cons (λ y. cond (P y) 1 0) x w

  count_by_case : (x : Message) (w : List Message) (b : Bool) → P x ≡ b → count_by P (x ∷ w) ≡ cond b 1 0 + count_by P w
  count_by_case x w b e = count_cons x w ∙ ap (λ (a : Bool). cond a 1 0 + count_by P w) e

  counts : (x : Message) (w : List Message) → P x ≡ true → 0 < count_by P (x ∷ w)
  counts x w e = let c = count_by_case x w true e in omega (arith, c)

  -- a message of the kind that waits is counted
  counted : (m : Message) (w : List Message) → Waits m w → P m ≡ true → 0 < count_by P w
  counted m [] h e = absurd (nothing_waits m [] refl h)
  counted m (x ∷ w) h e = elim (waits_cases m x w h) [
    | inl q ↦ counts x w (subst (λ y. P y ≡ true) q e)
    | inr t ↦ omega (arith, counted m w t e, count_cons x w)
  ]

  -- and where none waits, none is counted
  none_counted : (w : List Message) → ((m : Message) → P m ≡ true → Waits m w → ⊥) → count_by P w ≡ 0
  none_counted [] h = refl
  none_counted (x ∷ w) h = elim (true_or_false (P x)) [
    | inl t ↦ absurd (h x t (waits_head x w))
    | inr e ↦
        let c = count_by_case x w false e in
        omega (arith, c, none_counted w (λ m q k. h m q (waits_tail m x w k)))
  ]

pub own_of : (g : Setting) (i : ℕ) → is_own g i ≡ true → Own g i
own_of g i e = grind (arith, e)

-- a rig is quiet exactly where no message between own stations is counted and no own station has a rule to apply
module _ {N : Type 0} (net : Network N) (g : Setting) (r : Rig N) where
  pub quiet_if : count_by (between (is_own g)) (net.waiting r.network) ≡ 0
      → ((i : ℕ) → is_own g i ≡ true → Idle g.rules (r.station i)) → Quiet net g r
  quiet_if e idle = (
    λ m s a.
        let b : between (is_own g) m ≡ true = and_both (own_is g m.sender s) (own_is g m.addressee a) in
        elim (zero_or_more (copies m (net.waiting r.network))) [
          | inl z ↦ z
          | inr h ↦ absurd (let k = counted (between (is_own g)) m (net.waiting r.network) h b in omega (arith, k, e))
        ],
    λ i o. idle i (own_is g i o),
  )
    where
      zero_or_more : (n : ℕ) → (n ≡ 0) ⊎ (0 < n)
      zero_or_more n = grind arith

  pub quiet_counts : Quiet net g r → count_by (between (is_own g)) (net.waiting r.network) ≡ 0
  quiet_counts q = none_counted (between (is_own g)) (net.waiting r.network)
      (λ m b h.
      let (s, a) = and_split (is_own g m.sender) (is_own g m.addressee) b in
      let z = q.0 m (own_of g m.sender s) (own_of g m.addressee a) in omega (arith, z, h))

  pub quiet_idle : Quiet net g r → (i : ℕ) → is_own g i ≡ true → Idle g.rules (r.station i)
  quiet_idle q i h = q.1 i (own_of g i h)
