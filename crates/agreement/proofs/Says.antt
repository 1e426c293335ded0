-- What a station has said and heard, by payload: so that delivery is one statement.
use Rattle.std.proofs.Common.{◌≡◌, ℕ, ◌+◌, ◌*◌, ◌<◌, ◌≤◌, Bool, true, cond, if◌then◌else◌, ◌&&◌, ◌||◌, eqb, ltb, leb, ◌⊎◌, Some as some, None as none, Option, option_map, is_none, sym, refl, ap, ◌∙◌, subst, inl, inr, arith, lt-ltb}
use Rattle.std.specs.Option.{option_or}
use Rattle.agreement.specs.declared.message.Message.{Message}
use Rattle.agreement.specs.Messages.{Payload, prepare, propose, commit, message}
use Rattle.agreement.specs.Station.{Rules, Setting, size, stages, Own, Station, grading_of, is_heeded, with_message}
use Rattle.agreement.specs.Station.{Act, opening, joining, admitting, closing, deciding, Applies, after_act, speech, bit_to_commit}
use Rattle.agreement.specs.Theorems.{Does, SaidOnce}
use Rattle.agreement.proofs.Tests.{or_left, or_right, and_both, added, adds, eqb_same, same?}
use Rattle.agreement.proofs.Closing.{option_or-cases, option_or-keeps, grade_bit, makes_odd}
use Rattle.agreement.proofs.Facts.{World, Good}
use Rattle.agreement.proofs.Acts.{proposed_at}
use Rattle.agreement.proofs.Hear.{Sent}

-- the station has heard so from j
abbrev pub Hears : Station → ℕ → Payload → Type 0
Hears s j (prepare σ v) = s.preparers σ v j ≡ true
Hears s j (propose σ v) = s.proposal σ j ≡ some v
Hears s j (commit b) = s.committers b j ≡ true

-- an act leaves what was heard
record Deaf (s s' : Station) : Type 0 where
  preparers : s'.preparers ≡ s.preparers
  proposal : s'.proposal ≡ s.proposal
  committers : s'.committers ≡ s.committers

deaf : (g : Rules) (a : Act) (s : Station) → Deaf s (after_act g a s)
deaf g (opening σ v) s = record { preparers = refl; proposal = refl; committers = refl }
deaf g a s = record { preparers = refl; proposal = refl; committers = refl }

pub hears_after : (g : Rules) (a : Act) (s : Station) (j : ℕ) (p : Payload) → Hears s j p → Hears (after_act g a s) j p
hears_after g a s j (prepare σ v) h = ap (λ (f : ℕ → ℕ → ℕ → Bool). f σ v j) (deaf g a s).preparers ∙ h
hears_after g a s j (propose σ v) h = ap (λ (f : ℕ → ℕ → Option ℕ). f σ j) (deaf g a s).proposal ∙ h
hears_after g a s j (commit b) h = ap (λ (f : ℕ → ℕ → Bool). f b j) (deaf g a s).committers ∙ h

pub hears_with_message : (m : Message) (s : Station) (j : ℕ) (p : Payload) → Hears s j p → Hears (with_message m s) j p
hears_with_message m s j (prepare σ v) h =
    or_left (s.preparers σ v j) (eqb m.kind 1 && (eqb m.stage σ && (eqb m.value v && eqb m.sender j))) h
hears_with_message m s j (propose σ v) h =
    option_or-keeps (s.proposal σ j)
    (cond (eqb m.kind 2 && (eqb m.stage σ && eqb m.sender j)) (some m.value) none) v h
hears_with_message m s j (commit b) h =
    or_left (s.committers b j) (eqb m.kind 3 && (eqb m.value b && eqb m.sender j)) h

pub does_with_message : (m : Message) (s : Station) (p : Payload) → Does (with_message m s) p → Does s p
does_with_message m s (prepare σ v) h = h
does_with_message m s (propose σ v) h = h
does_with_message m s (commit b) h = h

-- a recorded message is heard, if an earlier proposal of its sender was the same
pub with_message-hears : (j i : ℕ) (s : Station) (p : Payload)
    → ((σ w : ℕ) → s.proposal σ j ≡ some w → (v : ℕ) → p ≡ propose σ v → w ≡ v) → Hears (with_message (message j i p) s) j p
with_message-hears j i s (prepare σ v) u =
    or_right (s.preparers σ v j) (eqb σ σ && (eqb v v && eqb j j))
    (and_both (eqb_same σ) (and_both (eqb_same v) (eqb_same j)))
with_message-hears j i s (propose σ v) u = go (s.proposal σ j) refl
  where
    go : (o : Option ℕ) → s.proposal σ j ≡ o
        → option_or (s.proposal σ j) (cond (eqb σ σ && eqb j j) (some v) none) ≡ some v
    go none e = rw (e, eqb_same σ, eqb_same j) refl
    go (some w) e = rw e (ap {B = Option ℕ} some (u σ w e v refl))
with_message-hears j i s (commit b) u =
    or_right (s.committers b j) (eqb b b && eqb j j) (and_both (eqb_same b) (eqb_same j))

-- what a station prepares anew, it says
prepares_new : (σ v x y : ℕ) (s : Station) → (s.prepared x y || (eqb x σ && eqb y v)) ≡ true
    → (s.prepared x y ≡ true) ⊎ (◌≡◌ {A = Option Payload} (some (prepare σ v)) (some (prepare x y)))
prepares_new σ v x y s h = elim (added (s.prepared x y) x y σ v h) [ inl e ↦ inl e | inr e ↦ inr (rw (e.0, e.1) refl) ]

-- what an act makes it do anew, the act says
pub speaks : (g : Rules) (a : Act) (s : Station) (p : Payload) → Does (after_act g a s) p
    → Does s p ⊎ (speech a s ≡ some p)
speaks g (opening σ v) s (prepare x y) h = prepares_new σ v x y s h
speaks g (joining σ v) s (prepare x y) h = prepares_new σ v x y s h
speaks g (admitting σ v) s (propose x y) h = elim (same? x σ) [
  | inl e ↦ elim (option_or-cases (s.proposed σ) (some v) y (sym (proposed_at g σ v s x e) ∙ h)) [
    | inl p ↦ inl (rw e p)
    | inr p ↦ let q : v ≡ y = cc p.1 in inr (rw p.0 (rw (e, q) refl))
  ]
  | inr e ↦ inl (rw e at h)
]
speaks g (closing σ P) s (commit b) h = elim (option_or-cases s.committed (bit_to_commit σ P) b h) [
  | inl p ↦ inl p
  | inr p ↦ inr (rw (p.0, p.1) refl)
]
speaks g a s p h = inl h

-- what is said where there was nothing
said_first : (o : Option ℕ) (x : Option Payload) (p : Payload) → (if is_none o then x else none) ≡ some p
    → (o ≡ none) × (x ≡ some p)
said_first none x p e = (refl, e)
said_first (some u) x p e = cc

committing : (o : Option ℕ) (p : Payload) → option_map commit o ≡ some p → (b : ℕ) × (o ≡ some b) × (commit b ≡ p)
committing none p e = cc
committing (some b) p e = (b, refl, cc)

-- and what it says, it has done
pub says_true : (g : Rules) (a : Act) (s : Station) (p : Payload) → speech a s ≡ some p → Does (after_act g a s) p
says_true g (opening σ v) s p e =
    let q : prepare σ v ≡ p = cc in subst (λ x. Does (after_act g (opening σ v) s) x) q (adds (s.prepared σ v) σ v)
says_true g (joining σ v) s p e =
    let q : prepare σ v ≡ p = cc in subst (λ x. Does (after_act g (joining σ v) s) x) q (adds (s.prepared σ v) σ v)
says_true g (admitting σ v) s p e =
    let k = said_first (s.proposed σ) (some (propose σ v)) p e in
    let q : propose σ v ≡ p = cc k.1 in
    subst (λ x. Does (after_act g (admitting σ v) s) x) q
    (proposed_at g σ v s σ refl ∙ ap (λ (x : Option ℕ). option_or x (some v)) k.0)
says_true g (closing σ P) s p e =
    let k = said_first s.committed (option_map commit (bit_to_commit σ P)) p e in
    let q = committing (bit_to_commit σ P) p k.1 in
    subst (λ x. Does (after_act g (closing σ P) s) x) q.2
    (ap (λ (x : Option ℕ). option_or x (bit_to_commit σ P)) k.0 ∙ q.1)
says_true g (deciding b) s p e = cc

-- which it had not done before
says_new : (g : Rules) (a : Act) (s : Station) (p : Payload) → Applies g s a → speech a s ≡ some p → Does s p → ⊥
says_new g (opening σ v) s p h e d = let q : p ≡ prepare σ v = cc in cc ((rw q at d), h.3)
says_new g (joining σ v) s p h e d = let q : p ≡ prepare σ v = cc in cc ((rw q at d), h.3)
says_new g (admitting σ v) s p h e d =
    let k = said_first (s.proposed σ) (some (propose σ v)) p e in
    let q : p ≡ propose σ v = cc k.1 in cc (sym k.0 ∙ (rw q at d))
says_new g (closing σ P) s p h e d =
    let k = said_first s.committed (option_map commit (bit_to_commit σ P)) p e in
    let q = committing (bit_to_commit σ P) p k.1 in
    cc (k.0, rw (sym q.2) at d)
says_new g (deciding b) s p h e d = cc

-- and what it had done, it has done still
does_still : (g : Rules) (a : Act) (s : Station) (p : Payload) → Does s p → Does (after_act g a s) p
does_still g (opening σ v) s (prepare x y) d = or_left (s.prepared x y) (eqb x σ && eqb y v) d
does_still g (joining σ v) s (prepare x y) d = or_left (s.prepared x y) (eqb x σ && eqb y v) d
does_still g (admitting σ v) s (propose x y) d = elim (same? x σ) [
  | inl e ↦ proposed_at g σ v s x e ∙ option_or-keeps (s.proposed σ) (some v) y (rw e at d)
  | inr e ↦ rw e d
]
does_still g (closing σ P) s (commit b) d = option_or-keeps s.committed (bit_to_commit σ P) b d
does_still g a s p d = d

pub said_once : SaidOnce
said_once g s a p h = (
  says_new g a s p h,
  (speaks g a s p, λ e. elim e [ inl d ↦ does_still g a s p d | inr e ↦ says_true g a s p e ]),
)

-- a message of what its sender has done
pub sent_does : (W : World) (i k : ℕ) (p : Payload) → Does (W i) p → Sent W (message i k p)
sent_does W i k (prepare σ v) h =
    record { prepared = λ _. h; proposed = λ e. absurd (omega arith); committed = λ e. absurd (omega arith) }
sent_does W i k (propose σ v) h =
    record { prepared = λ e. absurd (omega arith); proposed = λ _. h; committed = λ e. absurd (omega arith) }
sent_does W i k (commit b) h =
    record { prepared = λ e. absurd (omega arith); proposed = λ e. absurd (omega arith); committed = λ _. h }

-- what an own station does is never ignored
counts : (k v σ e : ℕ) → (k ≡ 1) ⊎ (k ≡ 2) → v ≤ 2 → σ < e
    → ((eqb k 1 || eqb k 2) && (leb v 2 && ltb σ e) || eqb k 3 && (leb v 1 && eqb σ 0)) ≡ true
counts k v σ e h p q = grind arith

bit_counts : (v : ℕ) → v ≤ 1 → (leb v 1 && eqb 0 0) ≡ true
bit_counts v p = grind arith

pub committed_bit : (g : Setting) (W : World) (i : ℕ) (s : Station) (b : ℕ) → Good g W i s → s.committed ≡ some b → b ≤ 1
committed_bit g W i s b d e =
    let k = d.committed b e in let c = d.closed (4 * k.0 + 3) k.1 in
    let u : some (grading_of c.set) ≡ some (some b, 2)
    = sym (makes_odd (4 * k.0 + 3) c.set (omega arith)) ∙ (sym c.graded ∙ k.2) in
    let w : (grading_of c.set).0 ≡ some b = cc in
    grade_bit (c.set 0) (c.set 1) (c.set 2) b w

pub never_ignored : (g : Setting) (W : World) (j i : ℕ) (s : Station) (p : Payload) → Own g j → Good g W j s → Does s p
    → is_heeded (size g.rules) (stages g.rules) (message j i p) ≡ true
never_ignored g W j i s (prepare σ v) o d h =
    let k = d.prepared σ v h in
    and_both (lt-ltb j (size g.rules) o.0) (counts 1 v σ (stages g.rules) (inl refl) k.2 k.1)
never_ignored g W j i s (propose σ v) o d h =
    let k = d.admitted σ v (d.first_admitted σ v h) in
    and_both (lt-ltb j (size g.rules) o.0) (counts 2 v σ (stages g.rules) (inr refl) k.1 k.0)
never_ignored g W j i s (commit b) o d h =
    and_both (lt-ltb j (size g.rules) o.0) (bit_counts b (committed_bit g W j s b d h))
