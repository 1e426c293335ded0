-- What every step keeps holds after every run; so does the invariant.
use Rattle.std.proofs.Common.{List, [], ◌∷◌, sym, subst}
use Rattle.agreement.specs.Families.{Laws}
use Rattle.agreement.specs.Station.{Setting}
use Rattle.agreement.specs.Law.{Wide}
use Rattle.agreement.specs.Networks.{Network}
use Rattle.agreement.specs.Rig.{Rig, Opened, Call, Step, Plays, Answer, acted, delivered, sent, lost, repeated, refused}
use Rattle.agreement.proofs.Invariant.{Inv, inv_opened, inv_posted, inv_lost}
use Rattle.agreement.proofs.Delivery.{inv_delivered}
use Rattle.agreement.proofs.Turns.{inv_acted}

-- what steps keep, runs keep
pub kept : {N : Type 0} (net : Network N) (g : Setting) (P : Rig N → Type 0)
    → ((c : Call) (a : Answer) (r r' : Rig N) → P r → Step net g c a r r' → P r')
    → (calls : List Call) (answers : List Answer) (r r' : Rig N) → Plays net g calls answers r r' → P r → P r'
kept net g P keeps [] [] r r' e p = subst P (sym e) p
kept net g P keeps [] (a ∷ answers) r r' e p = absurd e
kept net g P keeps (c ∷ calls) [] r r' e p = absurd e
kept net g P keeps (c ∷ calls) (a ∷ answers) r r' e p =
    kept net g P keeps calls answers e.0 r' e.2 (keeps c a r e.0 p e.1)

module _ {N : Type 0} (net : Network N) (g : Setting) (laws : Laws g.rule) (wide : Wide g) where
  inv_step : (c : Call) (a : Answer) (r r' : Rig N) → Inv net g r → Step net g c a r r' → Inv net g r'
  inv_step c (acted i a) r r' v s = inv_acted g laws wide i a r r' v s.1
  inv_step c (delivered m b) r r' v s = inv_delivered g laws s.0 m b r r' v s.2
  inv_step c sent r r' v s = inv_posted g r r' v s.4.1 s.0 s.4.0 s.4.2 (λ o. cc (s.2.1, o.1))
  inv_step c (lost m) r r' v s = inv_lost g r r' v s.2.1 s.0 m s.2
  inv_step c (repeated m) r r' v s = inv_posted g r r' v s.2.1 m s.2.0 s.2.2 (v.last m s.1)
  inv_step c (refused k) r r' v s = subst (λ x. Inv net g x) (sym s.1) v

  pub inv_run : {w : N} (calls : List Call) (answers : List Answer) (o r : Rig N) → Opened net g w o → Plays net g calls answers o r
      → Inv net g r
  inv_run calls answers o r h p = kept net g (Inv net g) inv_step calls answers o r p (inv_opened g o h)
