-- Every call has an answer.
use Rattle.std.proofs.Common.{◌≡◌, ℕ, zero, suc, ◌+◌, ◌<◌, ◌≤◌, Bool, true, false, not, if◌then◌else◌, ◌⊎◌, Some as some, None as none, Option, refl, inl, inr, arith}
use Rattle.agreement.specs.declared.message.Message.{Message}
use Rattle.agreement.specs.Messages.{Payload, message}
use Rattle.agreement.specs.Networks.{Network, Carries}
use Rattle.agreement.specs.Station.{Setting, size, Own, Guest, is_own, Station, after_act, speech, put}
use Rattle.agreement.specs.Rig.{Rig, Call, turn, deliver, lose, send, repeat, Step, addressee_after, Says, Broadcasts, Accepted}
use Rattle.agreement.specs.Rig.{Answer, acted, delivered, sent, lost, repeated, refused}
use Rattle.agreement.specs.Exact.{CallsAreAnswered}
use Rattle.agreement.proofs.Tests.{true_or_false}
use Rattle.agreement.proofs.Records.{addressee_changes?}
use Rattle.agreement.proofs.Due.{test, due_or_idle}
use Rattle.agreement.proofs.Exact.{put_changes, rig}

-- what a turn meets
which : (g : Setting) (i : ℕ) → (size g.rules ≤ i) ⊎ (Guest g i ⊎ Own g i)
which g i = grind arith

-- what a message from i to k meets
sendable : (g : Setting) (i k : ℕ)
    → ((size g.rules ≤ i) ⊎ (size g.rules ≤ k)) ⊎ ((Own g i × (k < size g.rules)) ⊎ (Guest g i × (k < size g.rules)))
sendable g i k = grind arith

-- the message delivered last, where there is one
none_or : (o : Option Message) → (o ≡ none) ⊎ ((m : Message) × (o ≡ some m))
none_or none = inl refl
none_or (some m) = inr (m, refl)

-- every call has an answer, over a network that carries messages
module _ {N : Type 0} (net : Network N) (fit : N → Bool) (carries : Carries net fit) (g : Setting) where
  abbrev Fit : N → Type 0
  Fit w = fit w ≡ true

  -- what is said to the stations below k
  says : (i : ℕ) (p : Payload) (w : N) → Fit w → (k : ℕ) → (w' : N) × (away : ℕ) × Says net (is_own g) i p k w w' away × Fit w'
  says i p w f zero = (w, 0, (refl, refl), f)
  says i p w f (suc k) =
      let (v, before, s, h) = says i p w f k in
      let m = message i k p in
      elim (true_or_false (net.turns_away v m)) [
        | inl t ↦ (v, before + (if is_own g k then 1 else 0), (v, before, s, inr (t, refl, refl)), h)
        | inr t ↦ let e = carries.posts v m h t in (net.posted v m, before, (v, before, s, inl (e.0, refl)), e.1)
      ]

  -- what i says or not
  said : (i : ℕ) (o : Option Payload) (W : ℕ → Station) (r : Rig N) → Fit r.network
      → (w : N) × (p : ℕ) × (q : ℕ) × Broadcasts net g i o r (rig W w r.last p q) × Fit w
  said i none W r f = (r.network, _, _, (refl, refl, refl), f)
  said i (some x) W r f = let (w, away, s, h) = says i x r.network f (size g.rules) in (w, _, _, (away, s, refl, refl), h)

  -- a rig with one message more
  more : (m : Message) (r : Rig N) → Fit r.network → net.turns_away r.network m ≡ false
      → (r' : Rig N) × Accepted net m r r' × Fit r'.network
  more m r f t = let e = carries.posts r.network m f t in
      (rig r.station (net.posted r.network m) _ _ _, (e.0, (λ k. refl, refl, refl), refl), e.1)

  -- by the tests of each call, in their order
  answered : (c : Call) (r : Rig N) → Fit r.network → (a : Answer) × (r' : Rig N) × Step net g c a r r' × Fit r'.network
  answered (turn i) r f = elim (which g i) [
    | inl h ↦ (refused 11, r, (grind arith, refl), f)
    | inr (inl h) ↦ (refused 12, r, (grind arith, refl), f)
    | inr (inr o) ↦ elim (due_or_idle g.rules (r.station i)) [
      | inl (a, d) ↦
          let W = put r.station i (after_act g.rules a (r.station i)) in
          let (w, p, q, u, h) = said i (speech a (r.station i)) W r f in
          let c = put_changes i (after_act g.rules a (r.station i)) r.station in
          (acted i a, rig W w r.last p q, (refl, record { by_own = o; due = d; stations = c; posts = u; last = refl }), h)
      | inr idle ↦ (refused 13, r, (grind arith, refl), f)
    ]
  ]
  answered (deliver h) r f = elim (carries.takes r.network h f) [
    | inl e ↦ (refused 14, r, ((refl, e), refl), f)
    | inr (m, e, k) ↦
        let i = m.addressee in
        let s = r.station i in
        let c = put_changes i (addressee_after g m s) r.station in
        let b = test (addressee_changes? g m s) in
        let r' = rig (put r.station i (addressee_after g m s)) (net.taken r.network h) (some m) r.posted r.missing in
        (delivered m (not b.0), r', (h, refl, grind arith), k)
  ]
  answered (lose h) r f = elim (carries.takes r.network h f) [
    | inl e ↦ (refused 14, r, ((refl, e), refl), f)
    | inr (m, e, k) ↦
        (lost m, rig r.station (net.taken r.network h) _ _ _, (h, refl, (e, (λ k. refl, refl, refl), refl)), k)
  ]
  answered (send m) r f = elim (sendable g m.sender m.addressee) [
    | inl h ↦ (refused 11, r, (grind arith, refl), f)
    | inr (inl h) ↦ (refused 15, r, (grind arith, refl), f)
    | inr (inr h) ↦ elim (true_or_false (net.turns_away r.network m)) [
      | inl t ↦ (refused 16, r, (grind arith, refl), f)
      | inr t ↦ let p = more m r f t in (sent, p.0, (m, refl, h.0, grind arith, p.1), p.2)
    ]
  ]
  answered repeat r f = elim (none_or r.last) [
    | inl e ↦ (refused 17, r, (inl (refl, e), refl), f)
    | inr (m, e) ↦ elim (true_or_false (net.turns_away r.network m)) [
      | inl t ↦ (refused 16, r, (inr (refl, (m, e, t)), refl), f)
      | inr t ↦ let p = more m r f t in (repeated m, p.0, (refl, e, p.1), p.2)
    ]
  ]

pub calls_are_answered : {N : Type 0} → CallsAreAnswered N
calls_are_answered net fit carries g c r f = answered net fit carries g c r f
