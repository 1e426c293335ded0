-- The runs of a single station.
use Rattle.std.proofs.Common.{◌≡◌, ℕ, ◌+◌, ◌*◌, ◌/◌, ◌<◌, Bool, true, false, cond, ◌&&◌, ◌⊎◌, eqb, ltb, List, [], ◌∷◌, ◌++◌, Some as some, None as none, Option, sym, refl, inl, inr, arith}
use Rattle.agreement.specs.declared.message.Message.{Message}
use Rattle.agreement.specs.Messages.{Payload, prepare, propose, commit, message}
use Rattle.agreement.specs.Networks.{Exits, Carries}
use Rattle.agreement.specs.Station.{Own, is_own, Station, fresh_station, is_heeded, with_message, after_act, speech, next_input, bit_to_commit, put}
use Rattle.agreement.specs.Station.{Act, opening, joining, admitting, closing, deciding, Applies, Idle, Before}
use Rattle.agreement.specs.Rig.{Rig, Opened, Call, turn, deliver, Broadcasts, Step, Plays}
use Rattle.agreement.specs.Rig.{Answer, acted, delivered, refused}
use Rattle.agreement.specs.Example.{stack, one_station, six_calls, SingleRun, QuietRun}
use Rattle.agreement.proofs.Thresholds.{threshold_laws}
use Rattle.agreement.proofs.Exact.{put_changes}
use Rattle.agreement.proofs.Records.{new, new_changes}

-- The station after k changes. Each stage takes five: 1 is prepared, that is heard, 1 is admitted and proposed, that is
-- heard, the stage is closed. After the last stage its commitment to 1 is heard, and 1 is decided.
record At (k : ℕ) (s : Station) : Type 0 where
  stage : s.stage ≡ k / 5
  input : s.input (k / 5) ≡ 1
  prepared : (σ v : ℕ) → σ < 4 → s.prepared σ v ≡ (eqb v 1 && ltb (5 * σ) k)
  preparers : (σ v : ℕ) → σ < 4 → s.preparers σ v 0 ≡ (eqb v 1 && ltb (5 * σ + 1) k)
  admitted : (σ v : ℕ) → σ < 4 → s.admitted σ v ≡ (eqb v 1 && ltb (5 * σ + 2) k)
  proposed : (σ : ℕ) → σ < 4 → s.proposed σ ≡ cond (ltb (5 * σ + 2) k) (some 1) none
  grading : (b : ℕ) → s.grading 1 ≡ some (some b, 2) → b ≡ 1
  proposal : (σ : ℕ) → σ < 4 → s.proposal σ 0 ≡ cond (ltb (5 * σ + 3) k) (some 1) none
  committed : s.committed ≡ cond (ltb 19 k) (some 1) none
  committers : (b : ℕ) → s.committers b 0 ≡ (eqb b 1 && ltb 20 k)
  decision : s.decision ≡ cond (ltb 21 k) (some 1) none

-- the acts that are to come after k changes
abbrev Timely : ℕ → Act → Type 0
Timely k (opening σ v) = (σ < 4) × (k ≡ 5 * σ)
Timely k (joining σ v) = ⊥
Timely k (admitting σ v) = (σ < 4) × (k ≡ 5 * σ + 2) × (v ≡ 1)
Timely k (closing σ P) = (σ < 4) × (k ≡ 5 * σ + 4)
Timely k (deciding b) = (k ≡ 21) × (b ≡ 1)

-- the set of the value 1
abbrev one : ℕ → Bool
one v = eqb v 1

-- none of them is before another
alone : (k : ℕ) (a b : Act) → Timely k a → Timely k b → Before b a → ⊥
alone k a b p q h = grind arith

-- the rig after k changes: w waits, and nothing is missing
record RigAt (k : ℕ) (w : List Message) (r : Rig (List Message)) : Type 0 where
  station : At k (r.station 0)
  waiting : r.network ≡ w
  missing : r.missing ≡ 0

-- the rig with the one station in state s, and with what else a call changes
abbrev becomes : Station → Rig (List Message) → List Message → Option Message → ℕ → Rig (List Message)
becomes s r w m n = record { station = put r.station 0 s; network = w; last = m; posted = n; missing = 0 }

-- what waits after the station said something or nothing, if nothing waited before
abbrev posts : Option Payload → List Message
posts none = []
posts (some p) = message 0 0 p ∷ []

-- a message from the station to itself
abbrev note : ℕ → ℕ → ℕ → Message
note kind σ v = record { sender = 0; addressee = 0; kind = kind; stage = σ; value = v }

-- what is said at the end of stage σ
abbrev last_word : ℕ → Option Payload
last_word σ = cond (eqb σ 3) (some (commit 1)) none

-- and the last one by a commitment to 1
commits_one : (σ : ℕ) → σ < 4 → bit_to_commit σ one ≡ cond (eqb σ 3) (some 1) none
commits_one σ l = grind arith

-- the answers to the six calls of the example, made in stage σ
abbrev stage_answers : ℕ → List Answer
stage_answers σ =
    acted 0 (opening σ 1)
    ∷ delivered (message 0 0 (prepare σ 1)) true
    ∷ acted 0 (admitting σ 1)
    ∷ refused 13
    ∷ delivered (message 0 0 (propose σ 1)) true
    ∷ acted 0 (closing σ one)
    ∷ []

-- the rig as it is opened; the numbers from 1 on are no stations
abbrev start : Rig (List Message)
start = record { station = λ i. fresh_station (is_own (one_station true) i && eqb i 0); network = []; last = none; posted = 0; missing = 0 }

-- and nothing has changed yet
begins : RigAt 0 [] start
begins = record { station = grind arith; waiting = refl; missing = refl }

module _ (coin : Bool) where
  -- no other applies
  timely : (k : ℕ) (s : Station) → At k s → (a : Act) → Applies (one_station coin).rules s a → Timely k a
  timely k s h a p = grind arith

  -- calls cs with answers xs lead from k changes, where u waits, to l changes, where v waits
  record Leads (k : ℕ) (u : List Message) (cs : List Call) (xs : List Answer) (l : ℕ) (v : List Message) : Type 0 where
    run : (r : Rig (List Message)) → RigAt k u r → (r' : Rig (List Message)) × Plays (stack 4096) (one_station coin) cs xs r r' × RigAt l v r'

  -- one call
  once : {k l : ℕ} {u v : List Message} {c : Call} {x : Answer}
      → ((r : Rig (List Message)) → RigAt k u r → (r' : Rig (List Message)) × Step (stack 4096) (one_station coin) c x r r' × RigAt l v r')
      → Leads k u (c ∷ []) (x ∷ []) l v
  once f = record { run = λ r h. let (q, s, i) = f r h in (q, (q, s, refl), i) }

  -- two runs in a row
  joined : (cs ds : List Call) (xs ys : List Answer) (r q r' : Rig (List Message)) → Plays (stack 4096) (one_station coin) cs xs r q
      → Plays (stack 4096) (one_station coin) ds ys q r' → Plays (stack 4096) (one_station coin) (cs ++ ds) (xs ++ ys) r r'
  joined [] ds [] ys r q r' e p = rw (← e) p
  joined [] ds (x ∷ xs) ys r q r' e p = absurd e
  joined (c ∷ cs) ds [] ys r q r' e p = absurd e
  joined (c ∷ cs) ds (x ∷ xs) ys r q r' (o, s, e) p = (o, s, joined cs ds xs ys o q r' e p)

  infixr 20 ◌then◌
  -- what leads to l changes, and what leads on from there
  ◌then◌ : {k l m : ℕ} {u v w : List Message} {cs ds : List Call} {xs ys : List Answer}
      → Leads k u cs xs l v → Leads l v ds ys m w → Leads k u (cs ++ ds) (xs ++ ys) m w
  ◌then◌ {cs} {ds} {xs} {ys} f g = record {
    run = λ r h.
        let (q, e, i) = f.run r h in
        let (r', p, j) = g.run q i in
        (r', joined cs ds xs ys r q r' e p, j);
  }

  -- none of it is turned away
  says : (p : Option Payload) (s : Station) (r : Rig (List Message)) → r.network ≡ [] → r.missing ≡ 0
      → (n : ℕ) × Broadcasts (stack 4096) (one_station coin) 0 p r (becomes s r (posts p) r.last n)
  says none s r e m = (r.posted, (sym e, refl, sym m))
  says (some p) s r e m =
      (r.posted + 1, (0, (r.network, 0, (refl, refl), inl ((rw e refl, rw e refl, rw e (λ x. refl)), refl)), refl, rw m refl))

  -- a turn: an act that applies is the one due
  acts : {k l : ℕ} (a : Act) (p : Option Payload)
      → ((s : Station) → At k s → Applies (one_station coin).rules s a × (speech a s ≡ p)
      × At l (after_act (one_station coin).rules a s))
      → Leads k [] (turn 0 ∷ []) (acted 0 a ∷ []) l (posts p)
  acts {k} a p f = once (λ r h.
      let s = r.station 0 in
      let (d, e, i) = f s h.station in
      let (n, b) = says p (after_act (one_station coin).rules a s) r h.waiting h.missing in (
        becomes (after_act (one_station coin).rules a s) r (posts p) r.last n,
        (
          refl,
          record {
            by_own = (omega arith, refl);
            due = (d, λ x y z. alone k a x (timely k s h.station a d) (timely k s h.station x z) y);
            stations = put_changes 0 (after_act (one_station coin).rules a s) r.station;
            posts = rw e b;
            last = refl;
          },
        ),
        record { station = i; waiting = refl; missing = refl },
      ))

  -- a turn when no act is to come
  idles : {k : ℕ} {w : List Message} → ((a : Act) → Timely k a → ⊥) → Leads k w (turn 0 ∷ []) (refused 13 ∷ []) k w
  idles {k} f = once (λ r h.
      (r, (inr (inr (refl, (omega arith, refl), λ a p. f a (timely k (r.station 0) h.station a p))), refl), h))

  -- a delivery of the one message that waits, which counts and is new
  hears : {k l : ℕ} (kind σ v : ℕ)
      → ((s : Station) → At k s
      → (is_heeded 1 4 (note kind σ v) ≡ true) × (new (note kind σ v) s ≡ true) × At l (with_message (note kind σ v) s))
      → Leads k (note kind σ v ∷ []) (deliver 0 ∷ []) (delivered (note kind σ v) true ∷ []) l []
  hears kind σ v f = once (λ r h.
      let m = note kind σ v in
      let s = r.station 0 in
      let (d, e, i) = f s h.station in (
        becomes (with_message m s) r [] (some m) r.posted,
        (
          0,
          refl,
          record {
            exits = (rw h.waiting refl, rw h.waiting refl, rw h.waiting (λ x. refl));
            stations = rw d (put_changes 0 (with_message m s) r.station);
            changed = λ _. new_changes m s e;
            unchanged = λ x. cc;
            last = refl;
            counts = (refl, sym h.missing);
          },
        ),
        record { station = i; waiting = refl; missing = refl },
      ))

  -- a stage that closes with {1} is followed by input 1
  follows_one : (σ v : ℕ) → next_input (one_station coin).rules σ one v ≡ 1
  follows_one σ v = grind arith

  -- closing a stage
  closes : (σ : ℕ) → σ < 4 → (s : Station) → At (5 * σ + 4) s → let a = closing σ one in
      Applies (one_station coin).rules s a × (speech a s ≡ last_word σ) × At (5 * σ + 5) (after_act (one_station coin).rules a s)
  closes σ l s h =
      let c : s.committed ≡ none = grind arith in
      (grind arith, rw (c, commits_one σ l) (grind arith), rw (c, follows_one, commits_one σ l) (grind arith))

  -- these calls lead through the stage
  stage : (σ : ℕ) → σ < 4 → Leads (5 * σ) [] six_calls (stage_answers σ) (5 * σ + 5) (posts (last_word σ))
  stage σ l =
      acts {l = 5 * σ + 1} (opening σ 1) (some (prepare σ 1)) (λ s h. grind arith)
      then hears {l = 5 * σ + 2} 1 σ 1 (λ s h. grind arith)
      then acts {l = 5 * σ + 3} (admitting σ 1) (some (propose σ 1)) (λ s h. (grind arith, grind arith, grind arith))
      then idles (λ a p. grind arith)
      then hears {l = 5 * σ + 4} 2 σ 1 (λ s h. grind arith)
      then acts (closing σ one) (last_word σ) (closes σ l)

  -- the six calls in each stage; then the commitment is heard, and 1 is decided
  stages : (cs : List Call) × (xs : List Answer) × Leads 0 [] cs xs 22 []
  stages = (
    _,
    _,
    stage 0 (omega arith)
        then stage 1 (omega arith)
        then stage 2 (omega arith)
        then stage 3 (omega arith)
        then hears {l = 21} 3 0 1 (λ s h. grind arith)
        then acts (deciding 1) none (λ s h. grind arith),
  )

  -- so it is, in the setting
  opened : Opened (stack 4096) (one_station coin) [] start
  opened = record {
    stations = λ i. refl;
    network = (refl, refl);
    last = refl;
    posted = refl;
    missing = refl;
  }

-- a stack carries messages
stack_carries : (holds : ℕ) → Carries (stack holds) (λ _. true)
stack_carries holds = record {
  clears = λ w f. ((refl, refl), refl);
  posts = λ w m f t. ((t, refl, λ x. refl), refl);
  takes = λ w h f. takes w h;
}
  where
    takes : (w : List Message) (h : ℕ)
        → (w ≡ []) ⊎ ((m : Message) × Exits (stack holds) h m w ((stack holds).taken w h) × (true ≡ true))
    takes [] h = inl refl
    takes (m ∷ v) h = inr (m, (refl, refl, λ x. refl), refl)

-- the six calls in stage 0
pub single_run : SingleRun
single_run = let (r, p, h) = (stage false 0 (omega arith)).run start begins in record {
  lawful = threshold_laws 1 0 0 (omega arith) (omega arith);
  carries = stack_carries 4096;
  start = start;
  end = r;
  opened = opened false;
  plays = p;
  stage = h.station.stage;
  undecided = h.station.decision;
  none_missing = h.missing;
}

-- only station 0 is own
only_own : (P : ℕ → Type 0) → P 0 → (i : ℕ) → Own (one_station true) i → P i
only_own P p i o = let e : i ≡ 0 = omega (arith, o.0) in rw e p

-- after the last change no act applies
rests : (s : Station) → At 22 s → Idle (one_station true).rules s
rests s h a p = let t = timely true 22 s h a p in grind arith

-- all stages
pub quiet_run : QuietRun
quiet_run = let (cs, xs, f) = stages true in let (r, p, h) = f.run start begins in record {
  calls = cs;
  answers = xs;
  start = start;
  end = r;
  opened = opened true;
  plays = p;
  narrow = refl;
  alike = only_own (λ i. eqb i 0 ≡ true) refl;
  unopposed = (
    omega arith,
    λ i b o. only_own (λ i. (r.station i).grading 1 ≡ some (some b, 2) → b ≡ 1) (h.station.grading b) i o,
  );
  quiet = (λ m _ _. rw h.waiting, only_own (λ i. Idle (one_station true).rules (r.station i)) (rests (r.station 0) h.station));
  finished = only_own (λ i. (r.station i).stage ≡ 4) h.station.stage;
  decided = h.station.decision;
  none_missing = h.missing;
}
