-- A delivery keeps the invariant.
use Rattle.std.proofs.Common.{◌≡◌, ℕ, Bool, true, cond, Some as some, sym, refl, ap, ◌∙◌, subst, inl, inr}
use Rattle.agreement.specs.declared.message.Message.{Message}
use Rattle.agreement.specs.Messages.{Payload, propose, message}
use Rattle.agreement.specs.Families.{Laws}
use Rattle.agreement.specs.Station.{Setting, size, stages, Own, is_own, Station, is_heeded, with_message}
use Rattle.agreement.specs.Networks.{Network}
use Rattle.agreement.specs.Rig.{Rig, addressee_after, Delivered}
use Rattle.agreement.specs.Theorems.{Does}
use Rattle.agreement.proofs.Own.{own_is}
use Rattle.agreement.proofs.Facts.{World, Good, Ext, ext_refl, Grow, changed, grow_changes, good_grows, good_changes}
use Rattle.agreement.proofs.Hear.{Sent, sent_grows, ext_with_message, good_with_message}
use Rattle.agreement.proofs.Says.{Hears, hears_with_message, does_with_message, with_message-hears, never_ignored}
use Rattle.agreement.proofs.Waiting.{message_to, exiting_waits, exiting_old, exiting_keeps}
use Rattle.agreement.proofs.Invariant.{Inv}

-- a fact on a station that was told a message
pub when_told : (P : Station → Type 0) (g : Setting) (m : Message) (s : Station) → P (with_message m s) → P s
    → P (addressee_after g m s)
when_told P g m s new old = go (is_own g m.addressee) (is_heeded (size g.rules) (stages g.rules) m)
  where
    go : (a b : Bool) → P (cond a (cond b (with_message m s) s) s)
    go true true = new
    go a b = old

-- an own sender's proposals of one stage are one
one_value : (g : Setting) (W : World) (i j : ℕ) (p : Payload) → Own g j → Good g W i (W i) → Does (W j) p
    → (σ w : ℕ) → (W i).proposal σ j ≡ some w → (v : ℕ) → p ≡ propose σ v → w ≡ v
one_value g W i j p o d h σ w q v e =
    let a : (W j).proposed σ ≡ some v = subst (λ x. Does (W j) x) e h in
    cc (d.heard_propose σ w j o q)

module _ {N : Type 0} {net : Network N} (g : Setting) (laws : Laws g.rule) (t : ℕ) (m : Message) (b : Bool) (r r' : Rig N)
    (v : Inv net g r) (c : Delivered net g t m b r r') where
  sent : Own g m.sender → Sent r.station m
  sent = v.waiting m (exiting_waits net t m r.network r'.network c.exits)

  ext : Ext (r.station m.addressee) (addressee_after g m (r.station m.addressee))
  ext = when_told (Ext (r.station m.addressee)) g m (r.station m.addressee)
      (ext_with_message m (r.station m.addressee)) (ext_refl (r.station m.addressee))

  grow : Grow r.station r'.station
  grow = grow_changes m.addressee (addressee_after g m (r.station m.addressee)) r.station r'.station c.stations ext

  does_was : (j : ℕ) (p : Payload) → Does (r'.station j) p → Does (r.station j) p
  does_was j p =
      changed (λ x t. Does t p → Does (r.station x) p) m.addressee (addressee_after g m (r.station m.addressee))
      r.station r'.station c.stations j
      (λ _. when_told (λ t. Does t p → Does (r.station m.addressee) p) g m (r.station m.addressee)
      (does_with_message m (r.station m.addressee) p) (λ d. d)) (λ d. d)

  hears_still : (i j : ℕ) (p : Payload) → Hears (r.station i) j p → Hears (r'.station i) j p
  hears_still i j p =
      changed (λ x t. Hears (r.station x) j p → Hears t j p) m.addressee (addressee_after g m (r.station m.addressee))
      r.station r'.station c.stations i
      (λ _. when_told (λ t. Hears (r.station m.addressee) j p → Hears t j p) g m (r.station m.addressee)
      (hears_with_message m (r.station m.addressee) j p) (λ d. d)) (λ d. d)

  -- the message taken is heard
  arrives : (i j : ℕ) (p : Payload) → Own g i → Own g j → Does (r.station j) p → message j i p ≡ m
      → Hears (r'.station i) j p
  arrives i j p oi oj d e =
      let to : m.addressee ≡ i = sym (ap (λ (x : Message). x.addressee) e) ∙ message_to j i p in
      let here : r'.station i ≡ addressee_after g m (r.station i)
      = subst (λ x. r'.station x ≡ addressee_after g m (r.station x)) to c.stations.0 in
      let heed : is_heeded (size g.rules) (stages g.rules) m ≡ true
      = subst (λ x. is_heeded (size g.rules) (stages g.rules) x ≡ true) e
      (never_ignored g r.station j i (r.station j) p oj (v.good j oj) d) in
      let told_so : addressee_after g m (r.station i) ≡ with_message m (r.station i) = rw (to, own_is g i oi, heed) refl in
      let heard : Hears (with_message (message j i p) (r.station i)) j p
      = with_message-hears j i (r.station i) p (one_value g r.station i j p oj (v.good i oi) d) in
      subst (λ x. Hears x j p) (sym (here ∙ told_so)) (subst (λ x. Hears (with_message x (r.station i)) j p) e heard)

  pub inv_delivered : Inv net g r'
  inv_delivered = record {
    good = let k = m.addressee in let W = r.station in let W' = r'.station in
        good_changes g k (addressee_after g m (W k)) W W' c.stations ext v.good (λ o. when_told (Good g W' k) g m (W k)
        (good_with_message m g laws W W' k (W k) grow (v.good k o) sent) (good_grows g W W' k (W k) grow (v.good k o)));
    waiting = λ x h o. sent_grows r.station r'.station x grow (v.waiting x (exiting_old net t m r.network r'.network c.exits x h) o);
    last = λ x h o. let e : m ≡ x = cc c.last in
        subst (λ (y : Message). Sent r'.station y) e
        (sent_grows r.station r'.station m grow (sent (subst (λ (y : Message). Own g y.sender) (sym e) o)));
    reach = λ z i j oi oj p d₀. let d = does_was j p d₀ in elim (v.reach (sym c.counts.1 ∙ z) i j oi oj p d) [
      | inl h ↦ inl (hears_still i j p h)
      | inr h ↦ elim (exiting_keeps net t m r.network r'.network c.exits (message j i p) h) [
        | inl e ↦ inl (arrives i j p oi oj d e)
        | inr u ↦ inr u
      ]
    ];
  }
