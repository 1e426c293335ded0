-- The invariant of a rig, and the calls that change no station: they keep it.
use Rattle.std.proofs.Common.{◌≡◌, ℕ, Bool, true, ◌&&◌, ◌⊎◌, Some as some, sym, refl, ◌∙◌, subst, inl, inr, arith}
use Rattle.agreement.specs.declared.message.Message.{Message}
use Rattle.agreement.specs.Messages.{Payload, prepare, propose, commit, message}
use Rattle.agreement.specs.Station.{Setting, Own, is_own, fresh_station}
use Rattle.agreement.specs.Networks.{Network, Enters}
use Rattle.agreement.specs.Rig.{Rig, Opened, Stays, Lost}
use Rattle.agreement.specs.Theorems.{Does}
use Rattle.agreement.proofs.Tests.{and_both}
use Rattle.agreement.proofs.Closing.{open_le}
use Rattle.agreement.proofs.Own.{own_is}
use Rattle.agreement.proofs.Facts.{opens_with, World, Good, ext_refl, Grow, good_same}
use Rattle.agreement.proofs.Hear.{Sent, sent_grows}
use Rattle.agreement.proofs.Says.{Hears}
use Rattle.agreement.proofs.Copies.{Waits, nothing_waits}
use Rattle.agreement.proofs.Waiting.{message_from, message_to, entering_keeps, entering_new, exiting_old, exiting_keeps}

-- what own j has done, own i has heard, or the message that says so waits
abbrev pub Reaches : {N : Type 0} → Network N → Rig N → ℕ → ℕ → Type 0
Reaches net r i j =
    (p : Payload) → Does (r.station j) p → Hears (r.station i) j p ⊎ Waits (message j i p) (net.waiting r.network)

-- Own stations' facts hold; messages under an own name that wait, or came last, say what their sender did; and while none
-- is missing, what own stations did reaches all of them.
pub record Inv {N : Type 0} (net : Network N) (g : Setting) (r : Rig N) : Type 0 where
  pub good : (i : ℕ) → Own g i → Good g r.station i (r.station i)
  pub waiting : (m : Message) → Waits m (net.waiting r.network) → Own g m.sender → Sent r.station m
  pub last : (m : Message) → r.last ≡ some m → Own g m.sender → Sent r.station m
  pub reach : r.missing ≡ 0 → (i j : ℕ) → Own g i → Own g j → Reaches net r i j

good_fresh : (g : Setting) (W : World) (i : ℕ) → Good g W i (fresh_station (g.opens i))
good_fresh g W i = record {
  heard = record {
    heard_prepare = λ σ v j o e. cc;
    heard_propose = λ σ v j o e. cc;
    heard_commit = λ b j o e. cc;
  };
  prepared = λ σ v e. cc;
  admits = record {
    admitted = λ σ v e. cc;
    first_admitted = λ σ v e. cc;
    first_proposed = λ σ v e. cc;
  };
  course = record {
    stage = omega arith;
    opened_with = refl;
    inputs = λ σ h. let k = open_le (g.opens i) σ in (omega arith, λ e. k);
  };
  opened = λ σ h. absurd (omega arith);
  closed = λ σ h. absurd (omega arith);
  grades = record { graded = λ σ x e. cc; committed = λ b e. cc; commits = λ ρ b e. cc };
  decided = λ b e. cc;
}

fresh_does : (b : Bool) (p : Payload) → Does (fresh_station b) p → ⊥
fresh_does b (prepare σ v) e = cc
fresh_does b (propose σ v) e = cc
fresh_does b (commit c) e = cc

pub inv_opened : {N : Type 0} {net : Network N} {w : N} (g : Setting) (r : Rig N) → Opened net g w r → Inv net g r
inv_opened {net} g r o = record {
  good = λ i k. rw (opens_with g r o i k) (good_fresh g r.station i);
  waiting = λ m h k. absurd (nothing_waits m (net.waiting r.network) o.network.1 h);
  last = λ m h k. cc (sym o.last ∙ h);
  reach = λ z i j oi oj p d. absurd (fresh_does (g.opens j) p (subst (λ x. Does x p) (opens_with g r o j oj) d));
}

-- calls that change no station
module _ {N : Type 0} {net : Network N} (g : Setting) (r r' : Rig N) (v : Inv net g r) (same : Stays r r') where
  grow : Grow r.station r'.station
  grow k = rw (same.0 k) (ext_refl (r.station k))

  still : (m : Message) → Sent r.station m → Sent r'.station m
  still m t = sent_grows r.station r'.station m grow t

  last_still : (m : Message) → r'.last ≡ some m → Own g m.sender → Sent r'.station m
  last_still m h o = still m (v.last m (sym same.1 ∙ h) o)

  reach_still : r.missing ≡ 0 → (i j : ℕ) → Own g i → Own g j → (p : Payload) → Does (r'.station j) p
      → Hears (r'.station i) j p ⊎ Waits (message j i p) (net.waiting r.network)
  reach_still z i j oi oj p d = elim (v.reach z i j oi oj p (subst (λ x. Does x p) (same.0 j) d)) [
    | inl h ↦ inl (subst (λ x. Hears x j p) (sym (same.0 i)) h)
    | inr h ↦ inr h
  ]

  -- one message more, from a guest or one that came before
  pub inv_posted : (m : Message) → Enters net m r.network r'.network → r'.missing ≡ r.missing
      → (Own g m.sender → Sent r.station m) → Inv net g r'
  inv_posted m more missing known = record {
    good = good_same g r.station r'.station same.0 v.good;
    waiting = λ x h o. elim (entering_new net m r.network r'.network more x h) [
      | inl e ↦ still x (rw e (known (subst (λ (y : Message). Own g y.sender) e o)))
      | inr u ↦ still x (v.waiting x u o)
    ];
    last = last_still;
    reach = λ z i j oi oj p d. elim (reach_still (sym missing ∙ z) i j oi oj p d) [
      | inl h ↦ inl h
      | inr h ↦ inr (entering_keeps net m r.network r'.network more (message j i p) h)
    ];
  }

  -- one message less
  pub inv_lost : (t : ℕ) (m : Message) → Lost net g t m r r' → Inv net g r'
  inv_lost t m c = record {
    good = good_same g r.station r'.station same.0 v.good;
    waiting = λ x h o. still x (v.waiting x (exiting_old net t m r.network r'.network c.0 x h) o);
    last = last_still;
    reach = λ z i j oi oj p d. elim (reach_still (omega (arith, c.2)) i j oi oj p d) [
      | inl h ↦ inl h
      | inr h ↦ elim (exiting_keeps net t m r.network r'.network c.0 (message j i p) h) [
        | inl e ↦ absurd (counted z i j oi oj p e)
        | inr u ↦ inr u
      ]
    ];
  }
    where
      -- a lost message from own to own would be missing
      counted : r'.missing ≡ 0 → (i j : ℕ) → Own g i → Own g j → (p : Payload) → message j i p ≡ m → ⊥
      counted z i j oi oj p e =
          let both : (is_own g (message j i p).sender && is_own g (message j i p).addressee) ≡ true
          = rw (message_from j i p, message_to j i p) (and_both (own_is g j oj) (own_is g i oi)) in
          let b : (is_own g m.sender && is_own g m.addressee) ≡ true
          = subst (λ (x : Message). (is_own g x.sender && is_own g x.addressee) ≡ true) e both in
          let k = rw b at c.2 in
          omega (arith, k)
