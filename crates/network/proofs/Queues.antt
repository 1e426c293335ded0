-- The ten queues as messages come and go.
use Rattle.std.proofs.Common.{◌≡◌, ℕ, zero, suc, ◌+◌, ◌%◌, ◌<◌, ◌≤◌, Bool, false, cond, eqb, leb, List, [], ◌∷◌, ◌++◌, length, replicate, drop, get_or, set, slice_get, Option, Some, None, IfSome, Result, Ok, Err, is_ok, is_err, OnOk, sym, arith, refl, ap, ◌∙◌, inl, inr}
use Rattle.std.specs.List.{All, sum_by}
use Rattle.std.proofs.lemmas.List.{get_or-set_same, get_or-set_other, get_or_default, length-set, length-drop}
use Rattle.std.proofs.lemmas.List.Sums.{sum_by-cons, sum_by-append, sum_by-set, sum_by-le, sum_by_push}
use Rattle.agreement.proofs.Copies.{copies_more}
use Rattle.agreement.proofs.Tests.{same?, eqb_same}
use Rattle.agreement.specs.declared.message.Message.{Message}
use Rattle.agreement.specs.Messages.{message_eq, Same}
use Rattle.network.specs.declared.TurnedAway.{TurnedAway}
use Rattle.std.proofs.lemmas.List.Elements.{All-drop}
use Rattle.std.proofs.lemmas.List.Concat.{length-flat_map}
use Rattle.agreement.specs.Networks.{Enters, Exits}
use Rattle.network.specs.Lanes.{lanes_pick, first_filled, lane_of, in_lane, all_lanes, load, ten_lanes, AreLanes}

-- n lanes without a message
pub all_empty : (lanes : List (List Message)) (n : ℕ) → length lanes ≡ n → All (λ q. q ≡ []) lanes → lanes ≡ replicate n []
all_empty [] zero l none = refl
all_empty (q ∷ lanes) (suc n) l none =
    let e : q ≡ [] = none 0 [] (omega arith) in
    let t = all_empty lanes n (omega (arith, l)) (λ k d h. none (suc k) d (omega (arith, h))) in
    λ i. e i ∷ t i
all_empty [] (suc n) l none = absurd (omega (arith, l))
all_empty (q ∷ lanes) zero l none = absurd (omega (arith, l))

-- a sum over all that waits, lane by lane
sum_in_lanes : (f : Message → ℕ) (lanes : List (List Message)) → sum_by f (all_lanes lanes) ≡ sum_by (sum_by f) lanes
sum_in_lanes f [] = refl
sum_in_lanes f (q ∷ lanes) = omega (arith, sum_by-append f q (all_lanes lanes), sum_in_lanes f lanes, sum_by-cons (sum_by f) q lanes)

-- of messages for lane j, all or none are for lane i
load_of : (i j : ℕ) (q : List Message) → All (λ m. lane_of m ≡ j) q → load i q ≡ cond (eqb j i) (length q) 0
load_of i j [] all = grind arith
load_of i j (m ∷ q) all =
    let h : lane_of m ≡ j = all 0 m (omega arith) in
    let t : load i q ≡ cond (eqb j i) (length q) 0 = load_of i j q (λ k d l. all (suc k) d (omega (arith, l))) in
    let s = sum_by-cons (λ x. cond (eqb (lane_of x) i) 1 0) m q in
    grind (arith, h, t, s)

-- as many messages are for a lane as wait in it
load_in_lane : (lanes : List (List Message)) (i : ℕ) → AreLanes lanes → i < 10
    → load i (all_lanes lanes) ≡ length (in_lane lanes i)
load_in_lane lanes i k h =
    let within : i < length lanes = rw k.ten h in
    let f : Message → ℕ = λ x. cond (eqb (lane_of x) i) 1 0 in
    let others : All (λ q. load i q ≤ 0) (set lanes i []) = λ j d l. elim (same? j i) [
      | inl e ↦ let z : get_or (set lanes i []) j d ≡ [] = rw e (get_or-set_same lanes i [] d within) in rw z (omega arith)
      | inr n ↦
          let z : get_or (set lanes i []) j d ≡ get_or lanes j d = get_or-set_other lanes i j [] d (grind arith) in
          let y : get_or lanes j d ≡ in_lane lanes j = get_or_default lanes j d [] (rw (← length-set lanes i []) l) in
          let x = load_of i j (in_lane lanes j) (k.by_addressee j) in
          rw (z ∙ y) (grind (arith, x, n))
    ] in
    let own = load_of i i (in_lane lanes i) (k.by_addressee i) in
    let all : cond (eqb i i) (length (in_lane lanes i)) 0 ≡ length (in_lane lanes i) =
    ap (λ b. cond b (length (in_lane lanes i)) 0) (eqb_same i) in
    let s = sum_by-set (load i) lanes i [] [] within in
    let t = sum_by-le (load i) 0 (set lanes i []) others in
    omega (arith, sum_in_lanes f lanes, s, t, own, all)

-- the lane that a place of the list of lanes holds
place_is : (lanes : List (List Message)) (i : ℕ) (q : List Message) → length lanes ≡ 10 → i < 10 → q ≡ get_or lanes i q
    → in_lane lanes i ≡ q
place_is lanes i q ten h e = get_or_default lanes i [] q (rw ten h) ∙ sym e

-- a lane is full where 40 messages for it wait
pub full_lane : (lanes : List (List Message)) (m : Message) (q : List Message) (b : Bool) → AreLanes lanes
    → q ≡ get_or lanes (lane_of m) q → b ≡ leb 40 (length q) → b ≡ leb 40 (load (lane_of m) (all_lanes lanes))
full_lane lanes m q b k e t =
    let h : lane_of m < 10 = omega arith in
    t ∙ ap (λ (w : List Message). leb 40 (length w)) (sym (place_is lanes (lane_of m) q k.ten h e))
    ∙ ap (λ n. leb 40 n) (sym (load_in_lane lanes (lane_of m) k h))

-- a sum over all that waits, where lane i changes from q into p
changed_sums : (lanes : List (List Message)) (i : ℕ) (p q : List Message) → length lanes ≡ 10 → i < 10 → q ≡ get_or lanes i q
    → (f : Message → ℕ) → sum_by f (all_lanes (set lanes i p)) + sum_by f q ≡ sum_by f (all_lanes lanes) + sum_by f p
changed_sums lanes i p q ten h e f =
    let s = sum_by-set (sum_by f) lanes i p q (rw ten h) in
    let t : sum_by f (get_or lanes i q) ≡ sum_by f q = ap (sum_by f) (sym e) in
    omega (arith, sum_in_lanes f (set lanes i p), sum_in_lanes f lanes, s, t)

-- a message more at the end of its lane
pub put_in_lane : (lanes before : List (List Message)) (i : ℕ) (m : Message) (q p : List Message) → i ≡ lane_of m
    → p ≡ q ++ m ∷ [] → q ≡ get_or lanes i q → length lanes ≡ 10 → lanes ≡ before
    → Same (all_lanes (set lanes i p)) (m ∷ all_lanes before)
put_in_lane lanes before i m q p l t k ten w = λ x.
    let f : Message → ℕ = λ y. cond (message_eq x y) 1 0 in
    let s = changed_sums lanes i p q ten (omega (arith, l)) k f in
    let c : sum_by f p ≡ sum_by f (q ++ m ∷ []) = ap (sum_by f) t in
    rw (← w) (omega (arith, s, c, sum_by_push f q m, copies_more x m (all_lanes lanes)))

pub entered : (lanes before : List (List Message)) (i : ℕ) (m : Message) (q p : List Message) (r : Result (Unit {0}) TurnedAway)
    → i ≡ lane_of m → p ≡ cond (is_ok r) (q ++ m ∷ []) q → is_err r ≡ leb 40 (length q) → q ≡ get_or lanes i q
    → AreLanes lanes → lanes ≡ before → OnOk r (Enters ten_lanes m before (set lanes i p))
entered lanes before i m q p (Err e) l t f k a w = tt
entered lanes before i m q p (Ok u) l t f k a w =
    let h : i < 10 = omega (arith, l) in
    let g : in_lane lanes i ≡ q = place_is lanes i q a.ten h k in (
      sym (full_lane before m q false (rw (← w) a) (rw (← w, ← l) k) f),
      rw (← w, ← l, g) (ap (λ (x : List Message). set lanes i x) t),
      put_in_lane lanes before i m q p l t k a.ten w,
    )

-- queue i changed into q
module _ (lanes : List (List Message)) (i : ℕ) (q : List Message) (k : AreLanes lanes) (h : i < 10) where
  queue_set : (P : ℕ → List Message → Type 0) → P i q → ((j : ℕ) → P j (in_lane lanes j)) → (j : ℕ) → P j (in_lane (set lanes i q) j)
  queue_set P here others j = elim (same? j i) [
    | inl e ↦ rw e (rw (get_or-set_same lanes i q [] (rw k.ten h)) here)
    | inr n ↦ rw (get_or-set_other lanes i j q [] (grind arith)) (others j)
  ]

  are_lanes_set : length q ≤ 40 → All (λ m. lane_of m ≡ i) q → AreLanes (set lanes i q)
  are_lanes_set short all = record {
    ten = length-set lanes i q ∙ k.ten;
    fit = queue_set (λ j w. length w ≤ 40) short k.fit;
    by_addressee = queue_set (λ j w. All (λ m. lane_of m ≡ j) w) all k.by_addressee;
  }

-- the oldest message taken off lane i
pub are_lanes_taken : (lanes : List (List Message)) (i : ℕ) (q p : List Message) → p ≡ drop 1 q → q ≡ get_or lanes i q
    → AreLanes lanes → i < 10 → AreLanes (set lanes i p)
are_lanes_taken lanes i q p t e k h =
    let w = place_is lanes i q k.ten h e in
    let short : length q ≤ 40 = rw (← w) (k.fit i) in
    let all : All (λ m. lane_of m ≡ i) q = rw (← w) (k.by_addressee i) in
    rw t (are_lanes_set lanes i (drop 1 q) k h (omega (arith, short, length-drop 1 q)) (All-drop (λ m. lane_of m ≡ i) 1 q all))

taken_from_lane : (lanes before : List (List Message)) (i : ℕ) (q p : List Message) (r : Option Message) → p ≡ drop 1 q
    → r ≡ slice_get q 0 → q ≡ get_or lanes i q → length lanes ≡ 10 → i < 10 → lanes ≡ before
    → IfSome r (λ m. Same (all_lanes before) (m ∷ all_lanes (set lanes i p)))
taken_from_lane lanes before i q p None t u e ten h w = tt
taken_from_lane lanes before i [] p (Some m) t u e ten h w = cc
taken_from_lane lanes before i (y ∷ q) p (Some m) t u e ten h w = λ x.
    let f : Message → ℕ = λ y. cond (message_eq x y) 1 0 in
    let o : m ≡ y = cc in
    let s = changed_sums lanes i p (y ∷ q) ten h e f in
    let c : sum_by f p ≡ sum_by f q = ap (sum_by f) t in
    rw (← w) (rw o (omega (arith, s, c, sum_by-cons f y q, copies_more x y (all_lanes (set lanes i p)))))

pub exited : (lanes before : List (List Message)) (hint i : ℕ) (q p : List Message) (r : Option Message) → p ≡ drop 1 q
    → r ≡ slice_get q 0 → q ≡ get_or lanes i q → length lanes ≡ 10 → i < 10 → i ≡ first_filled lanes (hint % 10)
    → lanes ≡ before → IfSome r (λ m. Exits ten_lanes hint m before (set lanes i p))
exited lanes before hint i q p None t u e ten h f w = tt
exited lanes before hint i q p (Some m) t u e ten h f w =
    let g : in_lane lanes i ≡ q = place_is lanes i q ten h e in (
      rw (← w, ← f, g) (sym u),
      rw (← w, ← f, g) (ap (λ (x : List Message). set lanes i x) t),
      taken_from_lane lanes before i q p (Some m) t u e ten h w,
    )

-- where nothing waits, no lane has a message
empty_lane : (lanes : List (List Message)) (i : ℕ) → all_lanes lanes ≡ [] → in_lane lanes i ≡ []
empty_lane [] i h = refl
empty_lane ([] ∷ lanes) zero h = refl
empty_lane ((m ∷ q) ∷ lanes) zero h = cc
empty_lane ([] ∷ lanes) (suc i) h = empty_lane lanes i h
empty_lane ((m ∷ q) ∷ lanes) (suc i) h = cc

pub none_picked : (lanes before : List (List Message)) (hint : ℕ) (r : Option Message) → r ≡ None → all_lanes lanes ≡ [] → lanes ≡ before
    → r ≡ lanes_pick before hint
none_picked lanes before hint r e h w =
    e ∙ ap (λ (q : List Message). slice_get q 0) (sym (empty_lane before (first_filled before (hint % 10)) (rw (← w) h)))

-- as many messages wait as in all lanes together, and at most 400
pub counted : (lanes : List (List Message)) → AreLanes lanes
    → (sum_by length lanes ≡ length (all_lanes lanes)) × (sum_by length lanes ≤ 400)
counted lanes k = (
  sym (length-flat_map (λ q. q) lanes),
  let short : All (λ (q : List Message). length q ≤ 40) lanes = λ i d h. rw (get_or_default lanes i d [] h) (k.fit i) in
      let s = sum_by-le length 40 lanes short in
      omega (arith, s, k.ten),
)
