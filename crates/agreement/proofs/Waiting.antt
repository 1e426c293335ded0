-- What waits on a network: after one message more, and after a station said something to all.
use Rattle.std.proofs.Common.{◌≡◌, ℕ, zero, suc, ◌<◌, ◌⊎◌, ◌∷◌, sym, refl, ◌∙◌, subst, inl, inr, arith}
use Rattle.agreement.specs.declared.message.Message.{Message}
use Rattle.agreement.specs.Messages.{Payload, prepare, propose, commit, message}
use Rattle.agreement.specs.Networks.{Network, Enters, Exits}
use Rattle.agreement.specs.Station.{Setting, Own, is_own}
use Rattle.agreement.specs.Rig.{Says}
use Rattle.agreement.proofs.Copies.{Waits, waits_head, waits_tail, waits_cases, waits_same}
use Rattle.agreement.proofs.Sets.{last_or}
use Rattle.agreement.proofs.Own.{own_is}

pub message_from : (i k : ℕ) (p : Payload) → (message i k p).sender ≡ i
message_from i k (prepare σ v) = refl
message_from i k (propose σ v) = refl
message_from i k (commit b) = refl

pub message_to : (i k : ℕ) (p : Payload) → (message i k p).addressee ≡ k
message_to i k (prepare σ v) = refl
message_to i k (propose σ v) = refl
message_to i k (commit b) = refl

-- what waits once a message entered
module _ {N : Type 0} (net : Network N) (m : Message) (w w' : N) (e : Enters net m w w') where
  pub entering_keeps : (x : Message) → Waits x (net.waiting w) → Waits x (net.waiting w')
  entering_keeps x h =
      waits_same x (m ∷ net.waiting w) (net.waiting w') (λ y. sym (e.2 y)) (waits_tail x m (net.waiting w) h)

  pub entering_new : (x : Message) → Waits x (net.waiting w') → (x ≡ m) ⊎ Waits x (net.waiting w)
  entering_new x h = waits_cases x m (net.waiting w) (waits_same x (net.waiting w') (m ∷ net.waiting w) e.2 h)

  entered_waits : Waits m (net.waiting w')
  entered_waits = waits_same m (m ∷ net.waiting w) (net.waiting w') (λ y. sym (e.2 y)) (waits_head m (net.waiting w))

-- and before one exited
module _ {N : Type 0} (net : Network N) (h : ℕ) (m : Message) (w w' : N) (e : Exits net h m w w') where
  pub exiting_waits : Waits m (net.waiting w)
  exiting_waits = waits_same m (m ∷ net.waiting w') (net.waiting w) (λ y. sym (e.2 y)) (waits_head m (net.waiting w'))

  pub exiting_old : (x : Message) → Waits x (net.waiting w') → Waits x (net.waiting w)
  exiting_old x u = waits_same x (m ∷ net.waiting w') (net.waiting w) (λ y. sym (e.2 y)) (waits_tail x m (net.waiting w') u)

  pub exiting_keeps : (x : Message) → Waits x (net.waiting w) → (x ≡ m) ⊎ Waits x (net.waiting w')
  exiting_keeps x u = waits_cases x m (net.waiting w') (waits_same x (net.waiting w) (m ∷ net.waiting w') e.2 u)

-- a payload said to the stations below k
module _ {N : Type 0} (net : Network N) (g : Setting) (i : ℕ) (p : Payload) (w : N) where
  pub saying_keeps : (k : ℕ) (w' : N) (away : ℕ) → Says net (is_own g) i p k w w' away → (x : Message) → Waits x (net.waiting w)
      → Waits x (net.waiting w')
  saying_keeps zero w' away s x h = subst (λ (v : N). Waits x (net.waiting v)) (sym s.0) h
  saying_keeps (suc k) w' away (v, before, s, c) x h =
      let u = saying_keeps k v before s x h in
      elim c [
        | inl e ↦ entering_keeps net (message i k p) v w' e.0 x u
        | inr e ↦ subst (λ (t : N). Waits x (net.waiting t)) (sym e.1) u
      ]

  pub saying_new : (k : ℕ) (w' : N) (away : ℕ) → Says net (is_own g) i p k w w' away → (x : Message) → Waits x (net.waiting w')
      → Waits x (net.waiting w) ⊎ ((a : ℕ) × (a < k) × (x ≡ message i a p))
  saying_new zero w' away s x h = inl (subst (λ (v : N). Waits x (net.waiting v)) s.0 h)
  saying_new (suc k) w' away (v, before, s, c) x h =
      let old : Waits x (net.waiting v) → Waits x (net.waiting w) ⊎ ((a : ℕ) × (a < suc k) × (x ≡ message i a p))
      = λ u. elim (saying_new k v before s x u) [ inl y ↦ inl y | inr y ↦ inr (y.0, omega (arith, y.1), y.2) ] in
      elim c [
        | inl e ↦ elim (entering_new net (message i k p) v w' e.0 x h) [
          | inl z ↦ inr (k, omega arith, z)
          | inr u ↦ old u
        ]
        | inr e ↦ old (subst (λ (t : N). Waits x (net.waiting t)) e.1 h)
      ]

  -- none of them was turned away, so each own station's message waits
  pub saying_all : (k : ℕ) (w' : N) (away : ℕ) → Says net (is_own g) i p k w w' away → away ≡ 0 → (a : ℕ) → a < k → Own g a
      → Waits (message i a p) (net.waiting w')
  saying_all zero w' away s z a h o = absurd (omega arith)
  saying_all (suc k) w' away (v, before, s, c) z a h o = elim c [
    | inl e ↦ last_or (λ x. Own g x → Waits (message i x p) (net.waiting w')) k a h
        (λ l u. entering_keeps net (message i k p) v w' e.0 (message i a p) (saying_all k v before s (sym e.1 ∙ z) a l u))
        (λ u. entered_waits net (message i k p) v w' e.0) o
    | inr e ↦ last_or (λ x. Own g x → Waits (message i x p) (net.waiting w')) k a h
        (λ l u. subst (λ (t : N). Waits (message i a p) (net.waiting t)) (sym e.1)
        (saying_all k v before s (omega (arith, e.2)) a l u))
        (λ u. let q = rw (own_is g k u) at e.2 in absurd (omega (arith, q))) o
  ]

  -- it leads to one state, and as many are turned away
  pub saying_once : (k : ℕ) (w' v' : N) (y z : ℕ) → Says net (is_own g) i p k w w' y → Says net (is_own g) i p k w v' z
      → (w' ≡ v') × (y ≡ z)
  saying_once zero w' v' y z s t = (s.0 ∙ sym t.0, s.1 ∙ sym t.1)
  saying_once (suc k) w' v' y z (u, b, s, c) (v, d, t, e) =
      let q = saying_once k u v b d s t in
      let x = q.0 in let n = q.1 in
      grind arith
