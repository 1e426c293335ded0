-- An own station is in the state that the rules give for its opening bit and its history, and they give one.
use Rattle.std.proofs.Common.{◌≡◌, ℕ, true, cond, eqb, List, [], ◌∷◌, ◌++◌, sym, refl, ◌∙◌, subst, inl, inr, arith}
use Rattle.agreement.specs.Networks.{Network}
use Rattle.agreement.specs.Station.{Rules, Setting, size, stages, Own, Station, fresh_station, after_message, Idle, after_act}
use Rattle.agreement.specs.Rig.{Rig, Call, turn, Refused, Step, Plays, Changes, addressee_after}
use Rattle.agreement.specs.Rig.{Answer, acted, delivered, sent, lost, repeated, refused}
use Rattle.agreement.specs.Law.{Event, hears, has_turn, events, history, Gives}
use Rattle.agreement.specs.Theorems.{StationsFollowRules}
use Rattle.agreement.specs.Exact.{HistoriesLeadOn, HistoriesTell}
use Rattle.agreement.proofs.Tests.{same?, eqb_is}
use Rattle.agreement.proofs.Own.{own_is}
use Rattle.agreement.proofs.Facts.{opens_with}
use Rattle.agreement.proofs.Due.{one_act_due, due_or_idle}

-- one history after another
gives_on : (g : Rules) (es fs : List Event) (s t u : Station) → Gives g s es t → Gives g t fs u → Gives g s (es ++ fs) u
gives_on g [] fs s t u p q = subst (λ x. Gives g x fs u) p q
gives_on g (hears m ∷ es) fs s t u p q = gives_on g es fs (after_message (size g) (stages g) m s) t u p q
gives_on g (has_turn ∷ es) fs s t u p q = elim p [
  | inl d ↦ inl (d.0, d.1, gives_on g es fs (after_act g d.0 s) t u d.2 q)
  | inr d ↦ inr (d.0, gives_on g es fs s t u d.1 q)
]

-- a call in which something happened to station k alone
happened : (g : Setting) (i k : ℕ) (e : Event) (s : Station) (W W' : ℕ → Station) → Changes k s W W'
    → (k ≡ i → Gives g.rules (W i) (e ∷ []) s) → Gives g.rules (W i) (cond (eqb k i) (e ∷ []) []) (W' i)
happened g i k e s W W' c new = elim (same? k i) [
  | inl h ↦ rw (eqb_is k i h)
      (subst (λ x. Gives g.rules (W i) (e ∷ []) x) (sym c.0 ∙ (λ j. W' (h j))) (new h))
  | inr h ↦ rw h (elim (c.1 i) [
    | inl t ↦ let z : eqb k i ≡ true = eqb_is k i (sym t) in cc
    | inr t ↦ t
  ])
]

module _ {N : Type 0} (net : Network N) (g : Setting) (i : ℕ) (o : Own g i) where
  -- a turn that is refused
  idles : (j k : ℕ) (r r' : Rig N) → Refused net g (turn j) k r → r' ≡ r
      → Gives g.rules (r.station i) (cond (eqb j i) (has_turn ∷ []) []) (r'.station i)
  idles j k r r' s e = elim (same? j i) [
    | inl h ↦ rw (eqb_is j i h) (inr (own_idles (subst (λ x. Refused net g (turn x) k r) h s), λ x. (e x).station i))
    | inr h ↦ rw h (λ x. (e x).station i)
  ]
    where
      own_idles : Refused net g (turn i) k r → Idle g.rules (r.station i)
      own_idles (inl q) = absurd (omega (arith, q.1, o.0))
      own_idles (inr (inl q)) = cc (sym o.1 ∙ q.1.1)
      own_idles (inr (inr q)) = q.2

  gives_step : (c : Call) (a : Answer) (r r' : Rig N) → Step net g c a r r'
      → Gives g.rules (r.station i) (events i c a) (r'.station i)
  gives_step c (acted k a) r r' s =
      rw s.0 (happened g i k has_turn (after_act g.rules a (r.station k)) r.station r'.station s.1.stations
      (λ e. subst (λ x. Gives g.rules (r.station x) (has_turn ∷ []) (after_act g.rules a (r.station k))) e (inl (a, s.1.due, refl))))
  gives_step c (delivered m b) r r' s =
      rw s.1 (happened g i m.addressee (hears m) (addressee_after g m (r.station m.addressee)) r.station r'.station
      s.2.stations (λ e. rw (e, own_is g i o) refl))
  gives_step c sent r r' s = rw s.1 (s.4.1.0 i)
  gives_step c (lost m) r r' s = rw s.1 (s.2.1.0 i)
  gives_step c (repeated m) r r' s = rw s.0 (s.2.1.0 i)
  gives_step (turn j) (refused k) r r' s = idles j k r r' s.0 s.1
  gives_step c (refused k) r r' s = λ j. (s.1 j).station i

  pub gives_run : (calls : List Call) (answers : List Answer) (r r' : Rig N) → Plays net g calls answers r r'
      → Gives g.rules (r.station i) (history i calls answers) (r'.station i)
  gives_run [] [] r r' e = λ j. (e j).station i
  gives_run [] (a ∷ answers) r r' e = absurd e
  gives_run (c ∷ calls) [] r r' e = absurd e
  gives_run (c ∷ calls) (a ∷ answers) r r' e =
      gives_on g.rules (events i c a) (history i calls answers) (r.station i) (e.0.station i) (r'.station i)
      (gives_step c a r e.0 e.1) (gives_run calls answers e.0 r' e.2)

pub stations_follow_rules : {N : Type 0} → StationsFollowRules N
stations_follow_rules net g w calls answers o r h p i own =
    subst (λ x. Gives g.rules x (history i calls answers) (r.station i)) (opens_with g o h i own)
    (gives_run net g i own calls answers o r p)

-- a history leads a station to one state at most
gives_once : (g : Rules) (es : List Event) (s t u : Station) → Gives g s es t → Gives g s es u → t ≡ u
gives_once g [] s t u p q = p ∙ sym q
gives_once g (hears m ∷ es) s t u p q = gives_once g es (after_message (size g) (stages g) m s) t u p q
gives_once g (has_turn ∷ es) s t u (inl (a, d, p)) (inl (b, e, q)) =
    gives_once g es (after_act g a s) t u p (subst (λ x. Gives g (after_act g x s) es u) (one_act_due g s b a e d) q)
gives_once g (has_turn ∷ es) s t u (inl (a, d, p)) (inr (e, q)) = absurd (e a d.0)
gives_once g (has_turn ∷ es) s t u (inr (d, p)) (inl (b, e, q)) = absurd (d b e.0)
gives_once g (has_turn ∷ es) s t u (inr (d, p)) (inr (e, q)) = gives_once g es s t u p q

-- and to one at least
leads_on : (g : Rules) (es : List Event) (s : Station) → (t : Station) × Gives g s es t
leads_on g [] s = (s, refl)
leads_on g (hears m ∷ es) s = leads_on g es (after_message (size g) (stages g) m s)
leads_on g (has_turn ∷ es) s = elim (due_or_idle g s) [
  | inl (a, d) ↦ let (t, p) = leads_on g es (after_act g a s) in (t, inl (a, d, p))
  | inr d ↦ let (t, p) = leads_on g es s in (t, inr (d, p))
]

pub histories_lead_on : HistoriesLeadOn
histories_lead_on g s es = let (t, p) = leads_on g es s in (t, p, λ u q. gives_once g es s u t q p)

pub histories_tell : {N M : Type 0} → HistoriesTell N M
histories_tell net other g h rules v w calls others answers their o r p q a b x y i oi ok alike same =
    let x = stations_follow_rules net g v calls answers o r a x i oi in
    let y = stations_follow_rules other h w others their p q b y i ok in
    gives_once g.rules (history i calls answers) (fresh_station (g.opens i)) (r.station i) (q.station i) x
    (subst (λ G. Gives G (fresh_station (g.opens i)) (history i calls answers) (q.station i)) (sym rules)
    (subst (λ b. Gives h.rules (fresh_station b) (history i calls answers) (q.station i)) (sym alike)
    (subst (λ es. Gives h.rules (fresh_station (h.opens i)) es (q.station i)) (sym same) y)))
