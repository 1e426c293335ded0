-- Two runs of the same calls, over networks of whatever kinds, in which the same messages were taken off.
use Rattle.std.proofs.Common.{◌≡◌, ◌≢◌, ℕ, zero, suc, ◌+◌, ◌<◌, true, false, if◌then◌else◌, ◌⊎◌, List, [], ◌∷◌, map, Some as some, None as none, Option, sym, refl, ap, ◌∙◌, subst, inl, inr, arith}
use Rattle.agreement.specs.declared.message.Message.{Message}
use Rattle.agreement.specs.Messages.{Payload, message, copies, Same}
use Rattle.agreement.specs.Networks.{Network, Enters}
use Rattle.agreement.specs.Station.{Setting, size, is_own, Act, Idle, Due, after_act, speech}
use Rattle.agreement.specs.Rig.{Rig, Opened, Call, turn, deliver, lose, send, repeat, Refused, Step, Plays}
use Rattle.agreement.specs.Rig.{Answer, acted, delivered, sent, lost, repeated, refused}
use Rattle.agreement.specs.Rig.{Changes, Says, Broadcasts, Stays, addressee_after, Delivered, Lost, Accepted}
use Rattle.agreement.specs.Exact.{taken_message, AllEnter, NoneTurnedAway, TurnAwayAlike, Alike}
use Rattle.agreement.specs.Exact.{OnlyTakesAreOpen, RunsGoByTakes, FreeRunsGoByTakes}
use Rattle.agreement.proofs.Copies.{emptied, same_more, same_less}
use Rattle.agreement.proofs.Due.{one_act_due}
use Rattle.agreement.proofs.Exact.{one_change, Done, by_call, one_refusal, not_both}

-- networks that turn away alike, and rigs that are alike over them, the other way round
turn_away_back : {N M : Type 0} (net : Network N) (other : Network M) → TurnAwayAlike net other → TurnAwayAlike other net
turn_away_back net other t v w m s = sym (t w v m (λ x. sym (s x)))

alike_back : {N M : Type 0} (net : Network N) (other : Network M) (r : Rig N) (q : Rig M) → Alike net other r q → Alike other net q r
alike_back net other r q l = record {
  stations = λ i. sym (l.stations i);
  waiting = λ x. sym (l.waiting x);
  last = sym l.last;
  posted = sym l.posted;
  missing = sym l.missing;
}

module _ {N M : Type 0} (net : Network N) (other : Network M) (turn_away : TurnAwayAlike net other) (g : Setting) where
  -- alike rigs refuse alike
  refused_too : (c : Call) (k : ℕ) (r : Rig N) (q : Rig M) → Alike net other r q → Refused net g c k r → Refused other g c k q
  refused_too (turn i) k r q l (inl x) = inl x
  refused_too (turn i) k r q l (inr (inl x)) = inr (inl x)
  refused_too (turn i) k r q l (inr (inr x)) = inr (inr (x.0, x.1, subst (λ s. Idle g.rules s) (l.stations i) x.2))
  refused_too (deliver h) k r q l p = (p.0, emptied (net.waiting r.network) (other.waiting q.network) l.waiting p.1)
  refused_too (lose h) k r q l p = (p.0, emptied (net.waiting r.network) (other.waiting q.network) l.waiting p.1)
  refused_too (send m) k r q l (inl x) = inl x
  refused_too (send m) k r q l (inr (inl x)) = inr (inl x)
  refused_too (send m) k r q l (inr (inr x)) =
      inr (inr (x.0, x.1, x.2, sym (turn_away r.network q.network m l.waiting) ∙ x.3))
  refused_too repeat k r q l (inl x) = inl (x.0, sym l.last ∙ x.1)
  refused_too repeat k r q l (inr (e, (m, x, t))) =
      inr (e, (m, sym l.last ∙ x, sym (turn_away r.network q.network m l.waiting) ∙ t))

  -- what is said to the stations below k
  says_alike : (i : ℕ) (p : Payload) (v : N) (w : M) → Same (net.waiting v) (other.waiting w)
      → (k : ℕ) (v' : N) (w' : M) (a b : ℕ) → Says net (is_own g) i p k v v' a → Says other (is_own g) i p k w w' b
      → Same (net.waiting v') (other.waiting w') × (a ≡ b)
  says_alike i p v w l zero v' w' a b s t = (
    subst (λ (x : N). Same (net.waiting x) (other.waiting w')) (sym s.0)
        (subst (λ (y : M). Same (net.waiting v) (other.waiting y)) (sym t.0) l),
    s.1 ∙ sym t.1,
  )
  says_alike i p v w l (suc k) v' w' a b (x, c, s, e) (y, d, t, f) =
      let (u, n) = says_alike i p v w l k x y c d s t in
      let m = message i k p in
      let z = turn_away x y m u in
      go u n z e f
    where
      go : {x : N} {y : M} {c d : ℕ} → Same (net.waiting x) (other.waiting y) → c ≡ d
          → net.turns_away x (message i k p) ≡ other.turns_away y (message i k p)
          → (Enters net (message i k p) x v' × (a ≡ c))
          ⊎ ((net.turns_away x (message i k p) ≡ true) × (v' ≡ x) × (a ≡ c + (if is_own g k then 1 else 0)))
          → (Enters other (message i k p) y w' × (b ≡ d))
          ⊎ ((other.turns_away y (message i k p) ≡ true) × (w' ≡ y) × (b ≡ d + (if is_own g k then 1 else 0)))
          → Same (net.waiting v') (other.waiting w') × (a ≡ b)
      go {x} {y} u n z (inl e) (inl f) = (
        same_more (message i k p) (net.waiting x) (net.waiting v') (other.waiting y) (other.waiting w') u e.0.2 f.0.2,
        e.1 ∙ n ∙ sym f.1,
      )
      go {x} {y} u n z (inr e) (inr f) = (
        subst (λ (t : N). Same (net.waiting t) (other.waiting w')) (sym e.1)
            (subst (λ (t : M). Same (net.waiting x) (other.waiting t)) (sym f.1) u),
        omega (arith, e.2, f.2, n),
      )
      go u n z (inl e) (inr f) = cc (sym e.0.0 ∙ z ∙ f.0)
      go u n z (inr e) (inl f) = cc (sym f.0.0 ∙ sym z ∙ e.0)

  -- the same call on alike rigs, not refused
  module _ (r r' : Rig N) (q q' : Rig M) (l : Alike net other r q) where
    -- what is posted
    broadcast_alike : (i : ℕ) (o : Option Payload) → Broadcasts net g i o r r' → Broadcasts other g i o q q'
        → Same (net.waiting r'.network) (other.waiting q'.network) × (r'.posted ≡ q'.posted) × (r'.missing ≡ q'.missing)
    broadcast_alike i none d k = (
      subst (λ (x : N). Same (net.waiting x) (other.waiting q'.network)) (sym d.0)
          (subst (λ (y : M). Same (net.waiting r.network) (other.waiting y)) (sym k.0) l.waiting),
      d.1 ∙ l.posted ∙ sym k.1,
      d.2 ∙ l.missing ∙ sym k.2,
    )
    broadcast_alike i (some p) d k =
        let (w, e) = says_alike i p r.network q.network l.waiting (size g.rules) r'.network q'.network d.0 k.0 d.1 k.1 in
        (w, omega (arith, d.2, k.2, l.posted), omega (arith, d.3, k.3, l.missing, e))

    -- what changes no station
    stays_alike : Same (net.waiting r'.network) (other.waiting q'.network) → r'.missing ≡ q'.missing → Stays r r' → Stays q q'
        → Alike net other r' q'
    stays_alike w e s t = record {
      stations = λ i. s.0 i ∙ l.stations i ∙ sym (t.0 i);
      waiting = w;
      last = s.1 ∙ l.last ∙ sym t.1;
      posted = s.2 ∙ l.posted ∙ sym t.2;
      missing = e;
    }

    -- one message more
    accepted_alike : (m : Message) → Accepted net m r r' → Accepted other m q q' → Alike net other r' q'
    accepted_alike m d k = stays_alike
        (same_more m (net.waiting r.network) (net.waiting r'.network) (other.waiting q.network) (other.waiting q'.network)
        l.waiting d.0.2 k.0.2)
        (d.2 ∙ l.missing ∙ sym k.2) d.1 k.1

    -- one station changes
    changes_alike : (i : ℕ) → Changes i (r'.station i) r.station r'.station → Changes i (q'.station i) q.station q'.station
        → r'.station i ≡ q'.station i → (k : ℕ) → r'.station k ≡ q'.station k
    changes_alike i c d e k = let s = l.stations k in grind arith

    -- what is answered and left
    done_alike : (c : Call) (a b : Answer) → Done net g c a r r' → Done other g c b q q'
        → ((m n : Message) → taken_message a ≡ some m → taken_message b ≡ some n → m ≡ n)
        → (a ≡ b) × Alike net other r' q'
    done_alike (turn i) a b (x, e, d) (y, f, k) t =
        let s = l.stations i in
        let z = one_act_due g.rules (q.station i) x y (subst (λ u. Due g.rules u x) s d.due) k.due in
        let p = subst (λ o. Broadcasts net g i o r r') (λ j. speech (z j) (s j)) d.posts in
        let (w, n, away) = broadcast_alike i (speech y (q.station i)) p k.posts in
        let u : after_act g.rules x (r.station i) ≡ after_act g.rules y (q.station i) = λ j. after_act g.rules (z j) (s j) in (
          e ∙ (λ j. acted i (z j)) ∙ sym f,
          record {
            stations = changes_alike i (refl, d.stations.1) (refl, k.stations.1) (d.stations.0 ∙ u ∙ sym k.stations.0);
            waiting = w;
            last = d.last ∙ l.last ∙ sym k.last;
            posted = n;
            missing = away;
          },
        )
    done_alike (deliver h) a b (m, x, e, d) (m', y, f, k') t =
        let z = t m m' (ap taken_message e) (ap taken_message f) in
        let k = subst (λ (u : Message). Delivered other g h u y q q') (sym z) k' in
        let i = m.addressee in
        let s = l.stations i in
        let u : r'.station i ≡ q'.station i = d.stations.0 ∙ (λ j. addressee_after g m (s j)) ∙ sym k.stations.0 in
        let c = one_change x y (r.station i) (r'.station i) (q'.station i) u d.changed d.unchanged
        (λ n w. k.changed n (w ∙ s)) (λ n. k.unchanged n ∙ sym s) in (
          e ∙ (λ j. delivered (z j) (c j)) ∙ sym f,
          record {
            stations = changes_alike i (refl, d.stations.1) (refl, k.stations.1) u;
            waiting = same_less m (net.waiting r.network) (net.waiting r'.network) (other.waiting q.network)
                (other.waiting q'.network) l.waiting d.exits.2 k.exits.2;
            last = d.last ∙ sym k.last;
            posted = d.counts.0 ∙ l.posted ∙ sym k.counts.0;
            missing = d.counts.1 ∙ l.missing ∙ sym k.counts.1;
          },
        )
    done_alike (lose h) a b (m, e, d) (m', f, k') t =
        let z = t m m' (ap taken_message e) (ap taken_message f) in
        let k = subst (λ (u : Message). Lost other g h u q q') (sym z) k' in (
          e ∙ (λ j. lost (z j)) ∙ sym f,
          stays_alike
              (same_less m (net.waiting r.network) (net.waiting r'.network) (other.waiting q.network)
              (other.waiting q'.network) l.waiting d.0.2 k.0.2)
              (omega (arith, d.2, k.2, l.missing)) d.1 k.1,
        )
    done_alike (send m) a b d k t = (d.0 ∙ sym k.0, accepted_alike m d.3 k.3)
    done_alike repeat a b (m, e, h, d) (m', f, h', k) t =
        let z : m ≡ m' = cc (h, h', l.last) in (
          e ∙ (λ j. repeated (z j)) ∙ sym f,
          accepted_alike m d (subst (λ (x : Message). Accepted other x q q') (sym z) k),
        )

-- refused with one number, or done alike
pub only_takes_are_open : {N M : Type 0} → OnlyTakesAreOpen N M
only_takes_are_open net other t g c a b r r' q q' l s k h = elim (by_call net g c a r r' s) [
  | inl (i, e, x, f) ↦ elim (by_call other g c b q q' k) [
    | inl (j, n, y, o) ↦ (
      e ∙ ap refused (one_refusal other g c i j q (refused_too net other t g c i r q l x) y) ∙ sym n,
      rw (f, o) l,
    )
    | inr y ↦ absurd (not_both other g c i b q q' (refused_too net other t g c i r q l x) y)
  ]
  | inr x ↦ elim (by_call other g c b q q' k) [
    | inl (j, n, y, o) ↦
        absurd (not_both net g c j a r r' (refused_too other net (turn_away_back net other t) g c j q r (alike_back net other r q l) y) x)
    | inr y ↦ done_alike net other t g r r' q q' l c a b x y h
  ]
]

-- runs from alike rigs
runs_alike : {N M : Type 0} (net : Network N) (other : Network M) → TurnAwayAlike net other → (g : Setting) (calls : List Call)
    (answers others : List Answer) (o r : Rig N) (p q : Rig M) → Alike net other o p → Plays net g calls answers o r
    → Plays other g calls others p q → map taken_message answers ≡ map taken_message others
    → (answers ≡ others) × Alike net other r q
runs_alike net other t g [] [] [] o r p q l x y h = (refl, rw (x, y) l)
runs_alike net other t g [] [] (b ∷ others) o r p q l x y h = absurd y
runs_alike net other t g [] (a ∷ answers) others o r p q l x y h = absurd x
runs_alike net other t g (c ∷ calls) [] others o r p q l x y h = absurd x
runs_alike net other t g (c ∷ calls) (a ∷ answers) [] o r p q l x y h = absurd y
runs_alike net other t g (c ∷ calls) (a ∷ answers) (b ∷ others) o r p q l (o', s, x) (p', k, y) h =
    let d = only_takes_are_open net other t g c a b o o' p p' l s k (λ m n e f. cc) in
    let e = runs_alike net other t g calls answers others o' r p' q d.1 x y (cc) in
    (λ j. d.0 j ∷ e.0 j, e.1)

-- and opened rigs are alike
pub runs_go_by_takes : {N M : Type 0} → RunsGoByTakes N M
runs_go_by_takes net other t g v w calls answers others o r p q h k =
    runs_alike net other t g calls answers others o r p q record {
      stations = λ i. h.stations i ∙ sym (k.stations i);
      waiting = λ m. ap (copies m) (h.network.1 ∙ sym k.network.1);
      last = h.last ∙ sym k.last;
      posted = h.posted ∙ sym k.posted;
      missing = h.missing ∙ sym k.missing;
    }

-- the network, if it turned no message away
abbrev free : {N : Type 0} → Network N → Network N
free net = record net { turns_away = λ _ _. false }

module _ {N : Type 0} (net : Network N) (g : Setting) where
  -- a turn of which no message is turned away
  says_free : (i : ℕ) (p : Payload) (w : N) (k : ℕ) (w' : N) (away : ℕ)
      → ((j b : ℕ) (v : N) → j < k → Says net (is_own g) i p j w v b → net.turns_away v (message i j p) ≡ false)
      → Says net (is_own g) i p k w w' away → Says (free net) (is_own g) i p k w w' away
  says_free i p w zero w' away h s = s
  says_free i p w (suc k) w' away h (v, before, s, c) =
      let t = says_free i p w k v before (λ j b u l. h j b u (omega (arith, l))) s in
      let e = h k before v (omega arith) s in
      (v, before, t, elim c [ inl x ↦ inl ((refl, x.0.1, x.0.2), x.1) | inr x ↦ cc (sym e ∙ x.0) ])

  posts_free : (i : ℕ) (a : Act) (o : Option Payload) (r r' : Rig N) → speech a (r.station i) ≡ o → AllEnter net g (acted i a) r
      → Broadcasts net g i o r r' → Broadcasts (free net) g i o r r'
  posts_free i a none r r' e h b = b
  posts_free i a (some p) r r' e h b =
      (b.0, says_free i p r.network (size g.rules) r'.network b.0 (λ j n v l s. h p j n v e l s) b.1, b.2, b.3)

  refused_free : (c : Call) (k : ℕ) (r : Rig N) → k ≢ 16 → Refused net g c k r → Refused (free net) g c k r
  refused_free (turn i) k r h f = f
  refused_free (deliver i) k r h f = f
  refused_free (lose i) k r h f = f
  refused_free (send m) k r h (inl f) = inl f
  refused_free (send m) k r h (inr (inl f)) = inr (inl f)
  refused_free (send m) k r h (inr (inr f)) = absurd (h f.0)
  refused_free repeat k r h (inl f) = inl f
  refused_free repeat k r h (inr f) = absurd (h f.0)

  step_free : (c : Call) (a : Answer) (r r' : Rig N) → Step net g c a r r' → AllEnter net g a r → Step (free net) g c a r r'
  step_free c (acted i a) r r' s h = (
    s.0,
    record {
      by_own = s.1.by_own;
      due = s.1.due;
      stations = s.1.stations;
      posts = posts_free i a (speech a (r.station i)) r r' refl h s.1.posts;
      last = s.1.last;
    },
  )
  step_free c (delivered m d) r r' s h = (
    s.0,
    s.1,
    record {
      exits = s.2.exits;
      stations = s.2.stations;
      changed = s.2.changed;
      unchanged = s.2.unchanged;
      last = s.2.last;
      counts = s.2.counts;
    },
  )
  step_free c sent r r' s h = (s.0, s.1, s.2, s.3, ((refl, s.4.0.1, s.4.0.2), s.4.1, s.4.2))
  step_free c (lost m) r r' s h = s
  step_free c (repeated m) r r' s h = (s.0, s.1, ((refl, s.2.0.1, s.2.0.2), s.2.1, s.2.2))
  step_free c (refused k) r r' s h = (refused_free c k r h s.0, s.1)

  plays_free : (calls : List Call) (answers : List Answer) (r r' : Rig N) (p : Plays net g calls answers r r')
      → NoneTurnedAway net g calls answers r r' p → Plays (free net) g calls answers r r'
  plays_free [] [] r r' p h = p
  plays_free [] (a ∷ answers) r r' p h = absurd p
  plays_free (c ∷ calls) [] r r' p h = absurd p
  plays_free (c ∷ calls) (a ∷ answers) r r' p h =
      (p.0, step_free c a r p.0 p.1 h.0, plays_free calls answers p.0 r' p.2 h.1)

  opened_free : (w : N) (r : Rig N) → Opened net g w r → Opened (free net) g w r
  opened_free w r o = record {
    stations = o.stations;
    network = o.network;
    last = o.last;
    posted = o.posted;
    missing = o.missing;
  }

pub free_runs_go_by_takes : {N M : Type 0} → FreeRunsGoByTakes N M
free_runs_go_by_takes net other g v w calls answers others o r p q h k x y a b t =
    let e = runs_go_by_takes (free net) (free other) (λ _ _ _ _. refl) g v w calls answers others o r p q
    (opened_free net g v o h) (opened_free other g w p k) (plays_free net g calls answers o r x a)
    (plays_free other g calls others p q y b) t in (
      e.0,
      record {
        stations = e.1.stations;
        waiting = e.1.waiting;
        last = e.1.last;
        posted = e.1.posted;
        missing = e.1.missing;
      },
    )
