-- A call has one answer and leaves one rig; so have calls in a row.
use Rattle.std.proofs.Common.{◌≡◌, ◌≢◌, ℕ, ◌+◌, ◌<◌, Bool, true, false, ◌⊎◌, List, [], ◌∷◌, Some as some, None as none, Option, sym, refl, ap, ◌∙◌, subst, inl, inr, arith}
use Rattle.agreement.specs.declared.message.Message.{Message}
use Rattle.agreement.specs.Messages.{Payload}
use Rattle.agreement.specs.Networks.{Network}
use Rattle.agreement.specs.Station.{Setting, size, Guest, Station, Act, after_act, speech, put}
use Rattle.agreement.specs.Rig.{Rig, Opened, Call, turn, deliver, lose, send, repeat, Refused, Step, Plays, capped_count}
use Rattle.agreement.specs.Rig.{Answer, acted, delivered, sent, lost, repeated, refused}
use Rattle.agreement.specs.Rig.{Changes, Broadcasts, Acted, addressee_after, Delivered, Lost, Accepted}
use Rattle.agreement.specs.Exact.{StepsAreDetermined, RunsAreDetermined}
use Rattle.agreement.proofs.Copies.{not_empty}
use Rattle.agreement.proofs.Waiting.{saying_once}
use Rattle.agreement.proofs.Due.{one_act_due}

-- whether a station changes has one answer
pub one_change : (x y : Bool) (s t u : Station) → t ≡ u → (x ≡ true → t ≢ s) → (x ≡ false → t ≡ s) → (y ≡ true → u ≢ s)
    → (y ≡ false → u ≡ s) → x ≡ y
one_change true true s t u e a b c d = refl
one_change true false s t u e a b c d = absurd (a refl (e ∙ d refl))
one_change false true s t u e a b c d = absurd (c refl (sym e ∙ b refl))
one_change false false s t u e a b c d = refl

-- one station is put
pub put_changes : (i : ℕ) (s : Station) (W : ℕ → Station) → Changes i s W (put W i s)
put_changes i s W = grind arith

-- a rig by its parts
abbrev pub rig : {N : Type 0} → (ℕ → Station) → N → Option Message → ℕ → ℕ → Rig N
rig W w m p q = record { station = W; network = w; last = m; posted = p; missing = q }

module _ {N : Type 0} (net : Network N) (g : Setting) where
  -- what a call does that is not refused
  abbrev pub Done : Call → Answer → Rig N → Rig N → Type 0
  Done (turn i) a r r' = (x : Act) × (a ≡ acted i x) × Acted net g i x r r'
  Done (deliver h) a r r' = (m : Message) × (b : Bool) × (a ≡ delivered m b) × Delivered net g h m b r r'
  Done (lose h) a r r' = (m : Message) × (a ≡ lost m) × Lost net g h m r r'
  Done (send m) a r r' = (a ≡ sent) × Guest g m.sender × (m.addressee < size g.rules) × Accepted net m r r'
  Done repeat a r r' = (m : Message) × (a ≡ repeated m) × (r.last ≡ some m) × Accepted net m r r'

  -- a step, by its call
  pub by_call : (c : Call) (a : Answer) (r r' : Rig N) → Step net g c a r r'
      → ((k : ℕ) × (a ≡ refused k) × Refused net g c k r × (r' ≡ r)) ⊎ Done c a r r'
  by_call c (acted i x) r r' s = inr (rw s.0 (x, refl, s.1))
  by_call c (delivered m b) r r' s = inr (rw s.1 (m, b, refl, s.2))
  by_call c sent r r' s = inr (rw s.1 (refl, s.2, s.3, s.4))
  by_call c (lost m) r r' s = inr (rw s.1 (m, refl, s.2))
  by_call c (repeated m) r r' s = inr (rw s.0 (m, refl, s.1, s.2))
  by_call c (refused k) r r' s = inl (k, refl, s.0, s.1)

  -- a call is refused with one number
  pub one_refusal : (c : Call) (k l : ℕ) (r : Rig N) → Refused net g c k r → Refused net g c l r → k ≡ l
  one_refusal c k l r p q = grind arith

  -- a call that is refused does nothing
  pub not_both : (c : Call) (k : ℕ) (a : Answer) (r r' : Rig N) → Refused net g c k r → Done c a r r' → ⊥
  not_both (turn i) k a r r' p d = grind arith
  not_both (deliver h) k a r r' p d = not_empty d.0 (net.waiting r.network) (net.waiting r'.network) d.3.exits.2 p.1
  not_both (lose h) k a r r' p d = not_empty d.0 (net.waiting r.network) (net.waiting r'.network) d.2.0.2 p.1
  not_both (send m) k a r r' p d = grind arith
  not_both repeat k a r r' p d = grind arith

  -- the same stations, where one changes
  one_world : (i : ℕ) (s : Station) (W V U : ℕ → Station) → Changes i s W V → Changes i s W U → V ≡ U
  one_world i s W V U c d = λ j k. go k j
    where
      go : (k : ℕ) → V k ≡ U k
      go k = grind arith

  -- the same rig, by its parts
  same_rig : (r q : Rig N) → r.station ≡ q.station → r.network ≡ q.network → r.last ≡ q.last → r.posted ≡ q.posted
      → r.missing ≡ q.missing → r ≡ q
  same_rig r q a b c d e = λ j. record { station = a j; network = b j; last = c j; posted = d j; missing = e j }

  -- the same call on one rig, not refused
  module _ (r r' q : Rig N) where
    -- what is posted
    one_broadcast : (i : ℕ) (o : Option Payload) → Broadcasts net g i o r r' → Broadcasts net g i o r q
        → (r'.network ≡ q.network) × (r'.posted ≡ q.posted) × (r'.missing ≡ q.missing)
    one_broadcast i none d k = (d.0 ∙ sym k.0, d.1 ∙ sym k.1, d.2 ∙ sym k.2)
    one_broadcast i (some p) d k =
        let (w, e) = saying_once net g i p r.network (size g.rules) r'.network q.network d.0 k.0 d.1 k.1 in
        (w, d.2 ∙ sym k.2, d.3 ∙ (ap (λ (x : ℕ). capped_count (r.missing + x)) e ∙ sym k.3))

    -- what enters
    one_accepted : (m : Message) → Accepted net m r r' → Accepted net m r q → r' ≡ q
    one_accepted m d k = same_rig r' q (λ j x. (d.1.0 x ∙ sym (k.1.0 x)) j) (d.0.1 ∙ sym k.0.1) (d.1.1 ∙ sym k.1.1)
        (d.1.2 ∙ sym k.1.2) (d.2 ∙ sym k.2)

    -- what is answered and left
    one_done : (c : Call) (a b : Answer) → Done c a r r' → Done c b r q → (a ≡ b) × (r' ≡ q)
    one_done (turn i) a b (x, e, d) (y, f, k) =
        let z = one_act_due g.rules (r.station i) x y d.due k.due in
        let p = subst (λ o. Broadcasts net g i o r r') (λ j. speech (z j) (r.station i)) d.posts in
        let (w, n, l) = one_broadcast i (speech y (r.station i)) p k.posts in
        let c = subst (λ t. Changes i (after_act g.rules t (r.station i)) r.station r'.station) z d.stations in (
          e ∙ (λ j. acted i (z j)) ∙ sym f,
          same_rig r' q (one_world i (after_act g.rules y (r.station i)) r.station r'.station q.station c k.stations) w
              (d.last ∙ sym k.last) n l,
        )
    one_done (deliver h) a b (m, x, e, d) (m', y, f, l) =
        let z : m ≡ m' = cc (d.exits.0, l.exits.0) in
        let k = subst (λ (t : Message). Delivered net g h t y r q) (sym z) l in
        let i = m.addressee in
        let w = one_world i (addressee_after g m (r.station i)) r.station r'.station q.station d.stations k.stations in
        let u = one_change x y (r.station i) (r'.station i) (q.station i) (λ j. w j i) d.changed d.unchanged k.changed k.unchanged in (
          e ∙ (λ j. delivered (z j) (u j)) ∙ sym f,
          same_rig r' q w (d.exits.1 ∙ sym k.exits.1) (d.last ∙ sym k.last) (d.counts.0 ∙ sym k.counts.0)
              (d.counts.1 ∙ sym k.counts.1),
        )
    one_done (lose h) a b (m, e, d) (m', f, l) =
        let z : m ≡ m' = cc (d.0.0, l.0.0) in
        let k = subst (λ (t : Message). Lost net g h t r q) (sym z) l in (
          e ∙ (λ j. lost (z j)) ∙ sym f,
          same_rig r' q (λ j x. (d.1.0 x ∙ sym (k.1.0 x)) j) (d.0.1 ∙ sym k.0.1) (d.1.1 ∙ sym k.1.1) (d.1.2 ∙ sym k.1.2)
              (d.2 ∙ sym k.2),
        )
    one_done (send m) a b d k = (d.0 ∙ sym k.0, one_accepted m d.3 k.3)
    one_done repeat a b (m, e, h, d) (m', f, h', k) =
        let z : m ≡ m' = cc (h, h') in
        let k' = subst (λ (x : Message). Accepted net x r q) (sym z) k in
        (e ∙ (λ j. repeated (z j)) ∙ sym f, one_accepted m d k')

-- refused with one number, or done in one way
pub steps_are_determined : {N : Type 0} → StepsAreDetermined N
steps_are_determined net g c a b r r' q s t = elim (by_call net g c a r r' s) [
  | inl (i, e, x, f) ↦ elim (by_call net g c b r q t) [
    | inl (j, k, y, o) ↦ (e ∙ ap refused (one_refusal net g c i j r x y) ∙ sym k, f ∙ sym o)
    | inr y ↦ absurd (not_both net g c i b r q x y)
  ]
  | inr x ↦ elim (by_call net g c b r q t) [
    | inl (j, k, y, o) ↦ absurd (not_both net g c j a r r' y x)
    | inr y ↦ one_done net g r r' q c a b x y
  ]
]

-- the same calls in a row on one rig
plays_once : {N : Type 0} (net : Network N) (g : Setting) (calls : List Call) (answers others : List Answer) (o r q : Rig N)
    → Plays net g calls answers o r → Plays net g calls others o q → (answers ≡ others) × (r ≡ q)
plays_once net g [] [] [] o r q x y = (refl, x ∙ sym y)
plays_once net g [] [] (b ∷ others) o r q x y = absurd y
plays_once net g [] (a ∷ answers) others o r q x y = absurd x
plays_once net g (c ∷ calls) [] others o r q x y = absurd x
plays_once net g (c ∷ calls) (a ∷ answers) [] o r q x y = absurd y
plays_once {N} net g (c ∷ calls) (a ∷ answers) (b ∷ others) o r q (o', s, x) (p', k, y) =
    let d = steps_are_determined net g c a b o o' p' s k in
    let e = plays_once net g calls answers others o' r q x (subst (λ (t : Rig N). Plays net g calls others t q) (sym d.1) y) in
    (λ j. d.0 j ∷ e.0 j, e.1)

-- a rig is opened in one way
opens_once : {N : Type 0} (net : Network N) (g : Setting) (w : N) (o p : Rig N) → Opened net g w o → Opened net g w p → o ≡ p
opens_once net g w o p h k =
    same_rig net g o p (λ j i. (h.stations i ∙ sym (k.stations i)) j) (h.network.0 ∙ sym k.network.0) (h.last ∙ sym k.last)
    (h.posted ∙ sym k.posted) (h.missing ∙ sym k.missing)

pub runs_are_determined : {N : Type 0} → RunsAreDetermined N
runs_are_determined {N} net g w calls answers others o r p q h k x y =
    let e = opens_once net g w o p h k in
    let d = plays_once net g calls answers others o r q x (subst (λ (t : Rig N). Plays net g calls others t q) (sym e) y) in
    (e, d.0, d.1)
