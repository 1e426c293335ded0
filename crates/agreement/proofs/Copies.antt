-- How often a message is in a list, and what is the same in any order.
use Rattle.std.proofs.Common.{◌≡◌, ℕ, length, ◌+◌, ◌<◌, Bool, true, false, cond, ◌&&◌, eqb, ◌⊎◌, List, [], ◌∷◌, sym, refl, ap, ◌∙◌, inl, inr, arith, eqb-true}
use Rattle.std.specs.List.{sum_by}
use Rattle.std.proofs.lemmas.List.Sums.{sum_by-cons}
use Rattle.agreement.specs.declared.message.Message.{Message}
use Rattle.agreement.specs.Messages.{message_eq, copies, Same}
use Rattle.agreement.proofs.Tests.{true_or_false, and_split, and_both, eqb_same}

-- the message waits
abbrev pub Waits : Message → List Message → Type 0
Waits m w = 0 < copies m w

message_eq_refl : (m : Message) → message_eq m m ≡ true
message_eq_refl m =
    and_both (and_both (eqb_same m.sender) (and_both (eqb_same m.addressee) (eqb_same m.kind)))
    (and_both (eqb_same m.stage) (eqb_same m.value))

message_eq_is : (x y : Message) → message_eq x y ≡ true → x ≡ y
message_eq_is x y e =
    let p = and_split (eqb x.sender y.sender && (eqb x.addressee y.addressee && eqb x.kind y.kind))
    (eqb x.stage y.stage && eqb x.value y.value) e in
    let q = and_split (eqb x.sender y.sender) (eqb x.addressee y.addressee && eqb x.kind y.kind) p.0 in
    let k = and_split (eqb x.addressee y.addressee) (eqb x.kind y.kind) q.1 in
    let t = and_split (eqb x.stage y.stage) (eqb x.value y.value) p.1 in
    λ i. record {
      sender = eqb-true x.sender y.sender q.0 i;
      addressee = eqb-true x.addressee y.addressee k.0 i;
      kind = eqb-true x.kind y.kind k.1 i;
      stage = eqb-true x.stage y.stage t.0 i;
      value = eqb-true x.value y.value t.1 i;
    }

pub copies_more : (x m : Message) (w : List Message) → copies x (m ∷ w) ≡ cond (message_eq x m) 1 0 + copies x w
copies_more x m w = sum_by-cons (λ y. cond (message_eq x y) 1 0) m w

copies_by : (x m : Message) (w : List Message) (b : Bool) → message_eq x m ≡ b → copies x (m ∷ w) ≡ cond b 1 0 + copies x w
copies_by x m w b e = copies_more x m w ∙ ap (λ (c : Bool). cond c 1 0 + copies x w) e

pub waits_head : (m : Message) (w : List Message) → Waits m (m ∷ w)
waits_head m w = let e = copies_by m m w true (message_eq_refl m) in omega (arith, e)

pub nothing_waits : (m : Message) (w : List Message) → w ≡ [] → Waits m w → ⊥
nothing_waits m w e h = let z : Waits m [] = rw e at h in omega (arith, z)

pub waits_tail : (x m : Message) (w : List Message) → Waits x w → Waits x (m ∷ w)
waits_tail x m w h = let e = copies_more x m w in omega (arith, e)

pub waits_cases : (x m : Message) (w : List Message) → Waits x (m ∷ w) → (x ≡ m) ⊎ Waits x w
waits_cases x m w h = elim (true_or_false (message_eq x m)) [
  | inl t ↦ inl (message_eq_is x m t)
  | inr t ↦ inr (let e = copies_by x m w false t in omega (arith, e))
]

pub waits_same : (x : Message) (v w : List Message) → Same v w → Waits x v → Waits x w
waits_same x v w s h = let e = s x in omega (arith, e)

-- what is the same in any order: something waits
pub not_empty : (m : Message) (v w : List Message) → Same v (m ∷ w) → v ≡ [] → ⊥
not_empty m v w s e = nothing_waits m v e (waits_same m (m ∷ w) v (λ x. sym (s x)) (waits_head m w))

-- nothing waits
pub emptied : (v w : List Message) → Same v w → v ≡ [] → w ≡ []
emptied v [] s e = refl
emptied v (m ∷ w) s e = absurd (not_empty m v w s e)

-- one message more, and one less
pub same_more : (m : Message) (v v' w w' : List Message) → Same v w → Same v' (m ∷ v) → Same w' (m ∷ w) → Same v' w'
same_more m v v' w w' l s t x = omega (arith, copies_more x m v, copies_more x m w, l x, s x, t x)

pub same_less : (m : Message) (v v' w w' : List Message) → Same v w → Same v (m ∷ v') → Same w (m ∷ w') → Same v' w'
same_less m v v' w w' l s t x = omega (arith, copies_more x m v', copies_more x m w', l x, s x, t x)

-- a message that waits, taken out: what is left
taken_out : (m : Message) (w : List Message) → Waits m w
    → (v : List Message) × ((f : Message → ℕ) → sum_by f w ≡ f m + sum_by f v)
taken_out m [] h = absurd (nothing_waits m [] refl h)
taken_out m (x ∷ w) h = elim (waits_cases m x w h) [
  | inl e ↦ (w, λ f. rw e (sum_by-cons f x w))
  | inr u ↦
      let (v, s) = taken_out m w u in
      (x ∷ v, λ f. omega (arith, s f, sum_by-cons f x w, sum_by-cons f x v))
]

-- every sum over the messages
pub same_sums : (v w : List Message) → Same v w → (f : Message → ℕ) → sum_by f v ≡ sum_by f w
same_sums [] w s f = let e = emptied [] w s refl in rw e refl
same_sums (m ∷ v) w s f =
    let (u, t) = taken_out m w (waits_same m (m ∷ v) w s (waits_head m v)) in
    let r : Same v u = λ x. omega (arith, s x, copies_more x m v, t (λ y. cond (message_eq x y) 1 0)) in
    omega (arith, sum_by-cons f m v, same_sums v u r f, t f)

-- how many they are
length_sums : (w : List Message) → length w ≡ sum_by (λ _. 1) w
length_sums [] = refl
length_sums (m ∷ w) = omega (arith, length_sums w, sum_by-cons (λ _. 1) m w)

pub same_length : (v w : List Message) → Same v w → length v ≡ length w
same_length v w s = length_sums v ∙ same_sums v w s (λ _. 1) ∙ sym (length_sums w)
