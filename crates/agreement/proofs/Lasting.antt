-- What acts that are due and messages heard leave true of a station lasts through every run; three such facts.
use Rattle.std.proofs.Common.{◌≡◌, ℕ, ◌<◌, true, false, Some as some, None as none, sym, refl, ◌∙◌, inl, inr, arith, List}
use Rattle.agreement.specs.declared.message.Message.{Message}
use Rattle.agreement.specs.Networks.{Network}
use Rattle.agreement.specs.Station.{Setting, Station, Act, opening, joining, closing, deciding, Due, after_act, with_message}
use Rattle.agreement.specs.Rig.{Rig, Call, addressee_after, Step, Plays}
use Rattle.agreement.specs.Rig.{Answer, acted, delivered, sent, lost, repeated, refused}
use Rattle.agreement.specs.Theorems.{DecisionsLast, OpensBeforeClosing, NothingAhead}
use Rattle.agreement.proofs.Tests.{same?, apart_lt}
use Rattle.agreement.proofs.Facts.{opens_with, changed}
use Rattle.agreement.proofs.Close.{input_off}
use Rattle.agreement.proofs.Delivery.{when_told}
use Rattle.agreement.proofs.Turns.{ext_after, was_opened}
use Rattle.agreement.proofs.Runs.{kept}

module _ {N : Type 0} (net : Network N) (g : Setting) (P : Station → Type 0) (acts : (a : Act) (s : Station) → Due g.rules s a → P s → P (after_act g.rules a s))
    (hears : (m : Message) (s : Station) → P s → P (with_message m s)) (i : ℕ) where
  step_keeps : (c : Call) (a : Answer) (r r' : Rig N) → P (r.station i) → Step net g c a r r' → P (r'.station i)
  step_keeps c (acted k a) r r' p s =
      changed (λ x t. P (r.station x) → P t) k (after_act g.rules a (r.station k)) r.station r'.station s.1.stations i
      (λ _. acts a (r.station k) s.1.due) (λ h. h) p
  step_keeps c (delivered m change) r r' p s =
      let k = m.addressee in
      changed (λ x t. P (r.station x) → P t) k (addressee_after g m (r.station k)) r.station r'.station s.2.stations i
      (λ _. when_told (λ t. P (r.station k) → P t) g m (r.station k) (hears m (r.station k)) (λ h. h)) (λ h. h) p
  step_keeps c sent r r' p s = rw (s.4.1.0 i) p
  step_keeps c (lost m) r r' p s = rw (s.2.1.0 i) p
  step_keeps c (repeated m) r r' p s = rw (s.2.1.0 i) p
  step_keeps c (refused k) r r' p s = rw s.1 p

  lasts : (calls : List Call) (answers : List Answer) (r r' : Rig N) → Plays net g calls answers r r' → P (r.station i)
      → P (r'.station i)
  lasts = kept net g (λ r. P (r.station i)) step_keeps

-- an act that is due leaves a decision
act_keeps : (g : Setting) (b : ℕ) (a : Act) (s : Station) → Due g.rules s a → s.decision ≡ some b
    → (after_act g.rules a s).decision ≡ some b
act_keeps g b (deciding c) s d e = cc (sym d.0.1 ∙ e)
act_keeps g b a s d e = e

pub decisions_last : {N : Type 0} → DecisionsLast N
decisions_last net g calls answers r r' p i b =
    lasts net g (λ s. s.decision ≡ some b) (act_keeps g b) (λ m s e. e) i calls answers r r' p

-- the input is prepared in each stage that the station has closed
abbrev Opened : Station → Type 0
Opened s = (σ : ℕ) → σ < s.stage → s.prepared σ (s.input σ) ≡ true

-- an act that is due leaves it so
act_opened : (g : Setting) (a : Act) (s : Station) → Due g.rules s a → Opened s → Opened (after_act g.rules a s)
act_opened g (opening σ v) s d o τ h = (ext_after g (opening σ v) s d.0).prepared τ (s.input τ) (o τ h)
act_opened g (joining σ v) s d o τ h = (ext_after g (joining σ v) s d.0).prepared τ (s.input τ) (o τ h)
act_opened g (closing σ P) s d o τ h = rw (input_off g.rules σ P s τ (omega arith)) (elim (same? τ σ) [
  | inl e ↦ rw e (was_opened g s σ P d)
  | inr k ↦ o τ (omega (arith, d.0.0, apart_lt τ σ (omega arith) k))
])
act_opened g a s d o τ h = o τ h

-- nothing is closed as a station is opened
pub opens_before_closing : {N : Type 0} → OpensBeforeClosing N
opens_before_closing net g w calls answers o r h p i σ own =
    lasts net g Opened (act_opened g) (λ m s e. e) i calls answers o r p
    (rw (opens_with g o h i own) (λ τ l. absurd (omega arith))) σ

-- nothing is done ahead
abbrev Behind : Station → Type 0
Behind s =
    (σ v : ℕ) → s.stage < σ
    → (s.prepared σ v ≡ false) × (s.admitted σ v ≡ false) × (s.proposed σ ≡ none) × (s.grading σ ≡ none)

-- an act that is due leaves it so
act_behind : (g : Setting) (a : Act) (s : Station) → Due g.rules s a → Behind s → Behind (after_act g.rules a s)
act_behind g (closing σ P) s d b τ w h = let k = b τ w (omega (arith, d.0.0)) in let e = d.0.0 in grind arith
act_behind g a s d b τ w h = let k = b τ w h in let e = d.0 in grind arith

pub nothing_ahead : {N : Type 0} → NothingAhead N
nothing_ahead net g w calls answers o r h p i σ v own =
    lasts net g Behind (act_behind g) (λ m s e. e) i calls answers o r p
    (rw (opens_with g o h i own) (λ τ w l. (refl, refl, refl, refl))) σ v
