-- What turns post: n messages for each thing that a station says, which is counted in what it did, and bounded.
use Rattle.std.proofs.Common.{◌≡◌, ℕ, zero, suc, ◌+◌, ◌*◌, ◌^◌, ◌<◌, ◌≤◌, Bool, true, false, if◌then◌else◌, ◌&&◌, ◌||◌, eqb, Some as some, None as none, Option, option_map, is_none, sym, refl, ap, ◌∙◌, subst, inl, inr, mul_assoc, mul-zero, mul-add, mul-le-mul_left, pow-suc, arith}
use Rattle.std.specs.Option.{option_or}
use native.Mathlib.Nat.{pow-zero}
use Rattle.agreement.specs.declared.message.Message.{Message}
use Rattle.agreement.specs.Messages.{Payload, propose, commit}
use Rattle.agreement.specs.Networks.{Network}
use Rattle.agreement.specs.Station.{Rules, Setting, size, stages, Own, is_own, Station, fresh_station, is_heeded, with_message, after_message, with_prepared, bit_to_commit}
use Rattle.agreement.specs.Station.{Act, opening, joining, admitting, closing, deciding, Applies, after_act, speech}
use Rattle.agreement.specs.Rig.{Rig, Opened, Call, Step, Changes, Broadcasts, Acted, addressee_after, Delivered, Stays}
use Rattle.agreement.specs.Rig.{Answer, acted, delivered, sent, lost, repeated, refused}
use Rattle.agreement.specs.Said.{sum, one, counted, said_in, said, said_by_all}
use Rattle.agreement.specs.Theorems.{PostedIsSaid, PostedBounded}
use Rattle.agreement.proofs.Tests.{same?, eqb_same, eqb_is, eqb_not, up_to_two}
use Rattle.agreement.proofs.Closing.{open_le}
use Rattle.agreement.proofs.Facts.{opens_with, Inputs, changed}
use Rattle.agreement.proofs.Acts.{proposed_at}
use Rattle.agreement.proofs.Close.{inputs_closing}
use Rattle.agreement.proofs.Delivery.{when_told}
use Rattle.agreement.proofs.Runs.{kept}

sum_same : (n : ℕ) (f h : ℕ → ℕ) → ((x : ℕ) → x < n → h x ≡ f x) → sum n h ≡ sum n f
sum_same zero f h p = refl
sum_same (suc n) f h p = omega (arith, p n (omega arith), sum_same n f h (λ x k. p x (omega arith)))

-- one of the summands grows by c
sum_more : (n : ℕ) (f h : ℕ → ℕ) (m c : ℕ) → m < n → ((x : ℕ) → eqb x m ≡ false → h x ≡ f x) → h m ≡ f m + c
    → sum n h ≡ sum n f + c
sum_more zero f h m c k p q = absurd (omega arith)
sum_more (suc n) f h m c k p q = elim (same? n m) [
  | inl e ↦
      let w : h n ≡ f n + c = subst (λ x. h x ≡ f x + c) (sym e) q in
      omega (arith, w, sum_same n f h (λ x l. p x (eqb_not x m (omega (arith, e, l)))))
  | inr e ↦
      let l : m < n = grind (arith, k, e) in
      omega (arith, p n e, sum_more n f h m c l p q)
]

sum_bound : (n : ℕ) (f : ℕ → ℕ) (c : ℕ) → ((x : ℕ) → x < n → f x ≤ c) → sum n f ≤ n * c
sum_bound zero f c p = omega arith
sum_bound (suc n) f c p = omega (arith, p n (omega arith), sum_bound n f c (λ x k. p x (omega arith)))

one_le : (b : Bool) → one b ≤ 1
one_le b = grind arith

counted_le : (o : Option ℕ) → counted o ≤ 1
counted_le none = omega arith
counted_le (some x) = omega arith

said_in_le : (s : Station) (σ : ℕ) → said_in s σ ≤ 4
said_in_le s σ =
    omega (arith, one_le (s.prepared σ 0), one_le (s.prepared σ 1), one_le (s.prepared σ 2), counted_le (s.proposed σ))

said_le : (g : Rules) (s : Station) → said (stages g) s ≤ 16 * g.rounds + 1
said_le g s = omega (arith, counted_le s.committed, sum_bound (stages g) (said_in s) 4 (λ σ h. said_in_le s σ))

-- preparing a value that was not prepared adds one, and nothing to other values and in other stages
flips : (p : Bool) (σ v w : ℕ) → p ≡ false → v ≡ w → one (p || (eqb σ σ && eqb w v)) ≡ one p + 1
flips p σ v w e h = rw (e, eqb_same σ, h, eqb_same w) refl

stays : (p b c : Bool) → (b && c) ≡ false → one (p || (b && c)) ≡ one p
stays true b c e = refl
stays false b c e = rw e refl

module _ (σ v : ℕ) (s : Station) where
  other_value : (w : ℕ) → eqb w v ≡ false → one ((with_prepared σ v s).prepared σ w) ≡ one (s.prepared σ w)
  other_value w e = stays (s.prepared σ w) (eqb σ σ) (eqb w v) (rw (eqb_same σ, e) refl)

  other_stage : (x : ℕ) → eqb x σ ≡ false → said_in (with_prepared σ v s) x ≡ said_in s x
  other_stage x e =
      let at : (w : ℕ) → one ((with_prepared σ v s).prepared x w) ≡ one (s.prepared x w)
      = λ w. stays (s.prepared x w) (eqb x σ) (eqb w v) (rw e refl) in
      omega (arith, at 0, at 1, at 2)

  said_in_new : v ≤ 2 → s.prepared σ v ≡ false → said_in (with_prepared σ v s) σ ≡ said_in s σ + 1
  said_in_new h e =
      let new : (w : ℕ) → v ≡ w → one ((with_prepared σ v s).prepared σ w) ≡ one (s.prepared σ w) + 1
      = λ w q. flips (s.prepared σ w) σ v w (subst (λ x. s.prepared σ x ≡ false) q e) q in
      let old : (w : ℕ) → (w ≡ v → ⊥) → one ((with_prepared σ v s).prepared σ w) ≡ one (s.prepared σ w)
      = λ w q. other_value w (eqb_not w v q) in
      elim (up_to_two v h) [
        | inl z ↦ omega (arith, new 0 z, old 1 (λ q. omega (arith, q, z)), old 2 (λ q. omega (arith, q, z)))
        | inr (inl z) ↦ omega (arith, new 1 z, old 0 (λ q. omega (arith, q, z)), old 2 (λ q. omega (arith, q, z)))
        | inr (inr z) ↦ omega (arith, new 2 z, old 0 (λ q. omega (arith, q, z)), old 1 (λ q. omega (arith, q, z)))
      ]

  said_with_prepared : (g : Rules) → σ < stages g → v ≤ 2 → s.prepared σ v ≡ false
      → said (stages g) (with_prepared σ v s) ≡ said (stages g) s + 1
  said_with_prepared g h k e =
      let t = sum_more (stages g) (said_in s) (said_in (with_prepared σ v s)) σ 1 h other_stage (said_in_new k e) in
      omega (arith, t)

-- what is said only where counted was nothing
said_first : (f : ℕ → Payload) (o p : Option ℕ)
    → counted (option_or o p) ≡ counted o + counted (if is_none o then option_map f p else none)
said_first f none none = refl
said_first f none (some x) = refl
said_first f (some y) p = refl

inputs_after : (g : Rules) (a : Act) (s : Station) → Applies g s a → Inputs s.stage s.input
    → let t = after_act g a s in Inputs t.stage t.input
inputs_after g (closing σ P) s p d = inputs_closing g σ P s (λ x h. d x (omega (arith, p.0)))
inputs_after g a s p d = d

-- an act adds what it says to what was said
said_after : (g : Rules) (a : Act) (s : Station) → Applies g s a → s.input s.stage ≤ 2
    → said (stages g) (after_act g a s) ≡ said (stages g) s + counted (speech a s)
said_after g (opening σ v) s p d =
    let i : s.input σ ≤ 2 = subst (λ x. s.input x ≤ 2) (sym p.0) d in
    said_with_prepared σ v s g p.1 (omega (arith, i, p.2)) p.3
said_after g (joining σ v) s p d = said_with_prepared σ v s g p.1 p.2 p.3
said_after g (admitting σ v) s p d =
    let t = after_act g (admitting σ v) s in
    let here : said_in t σ ≡ said_in s σ + counted (speech (admitting σ v) s)
    = rw (proposed_at g σ v s σ refl) (omega (arith, said_first (propose σ) (s.proposed σ) (some v))) in
    let m = sum_more (stages g) (said_in s) (said_in t) σ (counted (speech (admitting σ v) s)) p.1 (λ x e. rw e refl) here in
    omega (arith, m)
said_after g (closing σ P) s p d = omega (arith, said_first commit s.committed (bit_to_commit σ P))
said_after g (deciding b) s p d = omega arith

-- where one station changes and has said c more, all have said c more
all_more : (n end i c : ℕ) (s : Station) (W W' : ℕ → Station) → i < n → Changes i s W W' → said end s ≡ said end (W i) + c
    → said_by_all n end W' ≡ said_by_all n end W + c
all_more n end i c s W W' h k e =
    sum_more n (λ x. said end (W x)) (λ x. said end (W' x)) i c h
    (λ x f. elim (k.1 x) [ inl q ↦ let z : eqb x i ≡ true = eqb_is x i q in cc | inr q ↦ ap (said end) q ])
    (ap (said end) k.0 ∙ e)

-- an act of one station adds what it says to what all have said
pub all_after : (g : Rules) (i : ℕ) (a : Act) (W W' : ℕ → Station) → i < size g → Applies g (W i) a
    → (W i).input (W i).stage ≤ 2 → Changes i (after_act g a (W i)) W W'
    → said_by_all (size g) (stages g) W' ≡ said_by_all (size g) (stages g) W + counted (speech a (W i))
all_after g i a W W' h p d c =
    all_more (size g) (stages g) i (counted (speech a (W i))) (after_act g a (W i)) W W' h c (said_after g a (W i) p d)

-- where one station changes and has said no more, all have said no more
pub all_kept : (n end i : ℕ) (s : Station) (W W' : ℕ → Station) → Changes i s W W' → said end s ≡ said end (W i)
    → said_by_all n end W' ≡ said_by_all n end W
all_kept n end i s W W' c e =
    sum_same n (λ k. said end (W k)) (λ k. said end (W' k))
    (λ k _. changed (λ x t. said end t ≡ said end (W x)) i s W W' c k (λ _. e) refl)

-- a message that is heard adds nothing
pub said_hearing : (end n stages : ℕ) (m : Message) (s : Station) → said end (after_message n stages m s) ≡ said end s
said_hearing end n stages m s = go (is_heeded n stages m)
  where
    go : (b : Bool) → said end (if b then with_message m s else s) ≡ said end s
    go true = refl
    go false = refl

-- stations that have just been opened have said nothing
pub nothing_said : (n end : ℕ) (W : ℕ → Station) (opens : ℕ → Bool) → ((i : ℕ) → W i ≡ fresh_station (opens i))
    → said_by_all n end W ≡ 0
nothing_said n end W opens fresh = none n (λ i. said end (W i)) (λ i. ap (said end) (fresh i) ∙ each (opens i))
  where
    none : (n : ℕ) (f : ℕ → ℕ) → ((x : ℕ) → f x ≡ 0) → sum n f ≡ 0
    none zero f p = refl
    none (suc n) f p = omega (arith, p n, none n f p)

    each : (b : Bool) → said end (fresh_station b) ≡ 0
    each b = let z = none end (said_in (fresh_station b)) (λ σ. refl) in omega (arith, z)

record Counted {N : Type 0} (g : Setting) (r : Rig N) : Type 0 where
  inputs : (i : ℕ) → Own g i → Inputs (r.station i).stage (r.station i).input
  posted : r.posted ≡ size g.rules * said_by_all (size g.rules) (stages g.rules) r.station

module _ {N : Type 0} (net : Network N) (g : Setting) (r r' : Rig N) (b : Counted g r) where
  abbrev All : (ℕ → Station) → ℕ
  All W = said_by_all (size g.rules) (stages g.rules) W

  -- a call that posts nothing in a turn, and in which none has said more
  counted_still : ((i : ℕ) → Own g i → Inputs (r'.station i).stage (r'.station i).input)
      → All r'.station ≡ All r.station → r'.posted ≡ r.posted → Counted g r'
  counted_still inputs same e = record {
    inputs = inputs;
    posted = e ∙ b.posted ∙ ap (λ x. size g.rules * x) (sym same);
  }

  counted_same : Stays r r' → Counted g r'
  counted_same s =
      counted_still (λ i o. rw (s.0 i) (b.inputs i o))
      (sum_same (size g.rules) (λ i. said (stages g.rules) (r.station i)) (λ i. said (stages g.rules) (r'.station i))
      (λ i _. ap (said (stages g.rules)) (s.0 i)))
      s.2

  counted_delivered : (t : ℕ) (m : Message) (change : Bool) → Delivered net g t m change r r' → Counted g r'
  counted_delivered t m change c =
      let k = m.addressee in let W = r.station in
      counted_still
      (λ i. changed (λ x t. Own g x → Inputs t.stage t.input) k (addressee_after g m (W k)) W r'.station c.stations i
      (λ _. when_told (λ t. Own g k → Inputs t.stage t.input) g m (W k) (b.inputs k) (b.inputs k)) (b.inputs i))
      (all_kept (size g.rules) (stages g.rules) k (addressee_after g m (W k)) W r'.station c.stations
      (when_told (λ t. said (stages g.rules) t ≡ said (stages g.rules) (W k)) g m (W k) refl refl))
      c.counts.0

  spoken_posted : (i : ℕ) (o : Option Payload) → Broadcasts net g i o r r' → r'.posted ≡ r.posted + size g.rules * counted o
  spoken_posted i none p = omega (arith, p.1)
  spoken_posted i (some x) p = omega (arith, p.2)

  counted_acted : (i : ℕ) (a : Act) → Acted net g i a r r' → Counted g r'
  counted_acted i a c =
      let o = speech a (r.station i) in
      let more : All r'.station ≡ All r.station + counted o
      = all_after g.rules i a r.station r'.station c.by_own.0 c.due.0 (b.inputs i c.by_own (r.station i).stage (omega arith)).0
      c.stations in
      record {
        inputs = λ k. changed (λ x t. Own g x → Inputs t.stage t.input) i (after_act g.rules a (r.station i)) r.station r'.station
            c.stations k (λ _ o. inputs_after g.rules a (r.station i) c.due.0 (b.inputs i o)) (b.inputs k);
        posted = spoken_posted i o c.posts ∙ ap (λ x. x + size g.rules * counted o) b.posted
            ∙ sym (mul-add (size g.rules) (All r.station) (counted o)) ∙ ap (λ x. size g.rules * x) (sym more);
      }

counted_opened : {N : Type 0} {net : Network N} {w : N} (g : Setting) (r : Rig N) → Opened net g w r → Counted g r
counted_opened g r o = record {
  inputs = λ i k. rw (opens_with g r o i k) (λ σ h. (omega (arith, open_le (g.opens i) σ), λ _. open_le (g.opens i) σ));
  posted = o.posted ∙ sym (mul-zero (size g.rules))
      ∙ ap (λ x. size g.rules * x) (sym (nothing_said (size g.rules) (stages g.rules) r.station (λ i. is_own g i && g.opens i) o.stations));
}

counted_step : {N : Type 0} (net : Network N) (g : Setting) (c : Call) (a : Answer) (r r' : Rig N) → Counted g r
    → Step net g c a r r' → Counted g r'
counted_step net g c (acted i a) r r' b s = counted_acted net g r r' b i a s.1
counted_step net g c (delivered m change) r r' b s = counted_delivered net g r r' b s.0 m change s.2
counted_step net g c sent r r' b s = counted_same net g r r' b s.4.1
counted_step net g c (lost m) r r' b s = counted_same net g r r' b s.2.1
counted_step net g c (repeated m) r r' b s = counted_same net g r r' b s.2.1
counted_step net g c (refused k) r r' b s = subst (λ x. Counted g x) (sym s.1) b

pub posted_is_said : {N : Type 0} → PostedIsSaid N
posted_is_said net g w calls answers o r h p =
    (kept net g (Counted g) (counted_step net g) calls answers o r p (counted_opened g o h)).posted

squared : (n c : ℕ) → n ^ 2 * c ≡ n * (n * c)
squared n c =
    let once : n ^ 1 ≡ n = pow-suc n 0 ∙ (ap (λ (x : ℕ). x * n) (pow-zero n) ∙ omega arith) in
    ap (λ (x : ℕ). x * c) (pow-suc n 1 ∙ ap (λ (x : ℕ). x * n) once) ∙ mul_assoc n n c

-- what all have said, to all
pub all_le : (g : Rules) (W : ℕ → Station) → size g * said_by_all (size g) (stages g) W ≤ size g ^ 2 * (16 * g.rounds + 1)
all_le g W =
    omega (
      arith,
      squared (size g) (16 * g.rounds + 1),
      mul-le-mul_left (size g)
          (sum_bound (size g) (λ i. said (stages g) (W i)) (16 * g.rounds + 1) (λ x _. said_le g (W x))),
    )

pub posted_bounded : {N : Type 0} → PostedBounded N
posted_bounded net g w calls answers o r h p =
    omega (arith, posted_is_said net g w calls answers o r h p, all_le g.rules r.station)
