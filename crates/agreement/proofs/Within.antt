-- What waits, and the message delivered last, go from a station of the rig to one of the rig.
use Rattle.std.proofs.Common.{◌≡◌, ℕ, ◌<◌, Some as some, sym, ◌∙◌, subst, inl, inr}
use Rattle.agreement.specs.declared.message.Message.{Message}
use Rattle.agreement.specs.Networks.{Network, Enters, Exits}
use Rattle.agreement.specs.Station.{Setting, size, speech}
use Rattle.agreement.specs.Rig.{Rig, Opened, Call, Step, Answer, acted, delivered, sent, lost, repeated, refused}
use Rattle.agreement.specs.Theorems.{MessagesStayWithin}
use Rattle.agreement.proofs.Copies.{Waits, nothing_waits}
use Rattle.agreement.proofs.Waiting.{message_from, message_to, entering_new, exiting_waits, exiting_old}
use Rattle.agreement.proofs.Turns.{spoken_new}
use Rattle.agreement.proofs.Runs.{kept}

abbrev Between : Setting → Message → Type 0
Between g m = (m.sender < size g.rules) × (m.addressee < size g.rules)

record Within {N : Type 0} (net : Network N) (g : Setting) (r : Rig N) : Type 0 where
  waiting : (m : Message) → Waits m (net.waiting r.network) → Between g m
  last : (m : Message) → r.last ≡ some m → Between g m

module _ {N : Type 0} (net : Network N) (g : Setting) (r r' : Rig N) (w : Within net g r) where
  last_still : r'.last ≡ r.last → (x : Message) → r'.last ≡ some x → Between g x
  last_still e x h = w.last x (sym e ∙ h)

  one_more : (m : Message) → Between g m → Enters net m r.network r'.network → (x : Message)
      → Waits x (net.waiting r'.network) → Between g x
  one_more m b e x h = elim (entering_new net m r.network r'.network e x h) [
    | inl e ↦ subst (λ (y : Message). Between g y) (sym e) b
    | inr u ↦ w.waiting x u
  ]

  taken : (t : ℕ) (m : Message) → Exits net t m r.network r'.network → Between g m
  taken t m e = w.waiting m (exiting_waits net t m r.network r'.network e)

  one_less : (t : ℕ) (m : Message) → Exits net t m r.network r'.network → (x : Message)
      → Waits x (net.waiting r'.network) → Between g x
  one_less t m e x h = w.waiting x (exiting_old net t m r.network r'.network e x h)

  within_step : (c : Call) (a : Answer) → Step net g c a r r' → Within net g r'
  within_step c (acted i a) s = record {
    waiting = λ x h. elim (spoken_new net g i r r' (speech a (r.station i)) s.1.posts x h) [
      | inl u ↦ w.waiting x u
      | inr u ↦ subst (λ (y : Message). Between g y) (sym u.2.2)
          (rw (message_from i u.2.0 u.0) s.1.by_own.0, rw (message_to i u.2.0 u.0) u.2.1)
    ];
    last = last_still s.1.last;
  }
  within_step c (delivered m change) s = record {
    waiting = one_less s.0 m s.2.exits;
    last = λ x h. let e : m ≡ x = cc s.2.last in subst (λ (y : Message). Between g y) e (taken s.0 m s.2.exits);
  }
  within_step c sent s = record { waiting = one_more s.0 (s.2.0, s.3) s.4.0; last = last_still s.4.1.1 }
  within_step c (lost m) s = record { waiting = one_less s.0 m s.2.0; last = last_still s.2.1.1 }
  within_step c (repeated m) s = record { waiting = one_more m (w.last m s.1) s.2.0; last = last_still s.2.1.1 }
  within_step c (refused k) s = subst (λ (y : Rig N). Within net g y) (sym s.1) w

within_opened : {N : Type 0} (net : Network N) (g : Setting) (w : N) (r : Rig N) → Opened net g w r → Within net g r
within_opened net g w r o = record {
  waiting = λ x h. absurd (nothing_waits x (net.waiting r.network) o.network.1 h);
  last = λ x h. cc (sym o.last ∙ h);
}

pub messages_stay_within : {N : Type 0} → MessagesStayWithin N
messages_stay_within net g w calls answers o r h p =
    (kept net g (Within net g) (λ c a q q' w s. within_step net g q q' w c a s) calls answers o r p
    (within_opened net g w o h)).waiting
