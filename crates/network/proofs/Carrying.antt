-- Bag, lanes and loans carry messages.
use Rattle.std.proofs.Common.{◌≡◌, ℕ, ◌%◌, ◌<◌, ◌≤◌, Bool, true, cond, eqb, ◌⊎◌, List, [], ◌∷◌, ◌++◌, length, take, drop, get_or, slice_get, swap_remove, Some, refl, sym, ap, leb, ◌∙◌, inl, inr, arith, eqb-true}
use Rattle.std.specs.List.{prefix_len}
use Rattle.std.proofs.lemmas.List.{length-append, length-drop, length-take-le, length-set, get_or_default}
use Rattle.std.proofs.lemmas.List.Sums.{sum_by_push, prefix_len_passes, prefix_len_stops}
use Rattle.agreement.proofs.Copies.{copies_more, same_sums, same_length}
use Rattle.agreement.proofs.Tests.{eqb_is}
use Rattle.agreement.specs.declared.message.Message.{Message}
use Rattle.agreement.specs.Messages.{message_eq, Same}
use Rattle.agreement.specs.Networks.{Network, Exits, Carries}
use Rattle.agreement.specs.Exact.{TurnAwayAlike}
use Rattle.network.specs.Bags.{bag, bag_holds, bag_posted, bag_taken}
use Rattle.network.specs.Lanes.{lane_of, lane_holds, in_lane, all_lanes, first_filled, lanes_taken, ten_lanes, are_ten}
use Rattle.network.specs.Lent.{lent}
use Rattle.network.proofs.Places.{exited as bag_exited}
use Rattle.network.proofs.Queues.{put_in_lane, exited}
use Rattle.network.proofs.Search.{none_found, rotated}

-- a message put behind the others
put_last : (m : Message) (w : List Message) → Same (bag_posted w m) (m ∷ w)
put_last m w = λ x. omega (arith, sum_by_push (λ y. cond (message_eq x y) 1 0) w m, copies_more x m w)

-- the message that a bag picks is taken off it
bag_takes : (w : List Message) (h : ℕ) → (w ≡ []) ⊎ ((m : Message) × Exits bag h m w (bag_taken w h) × (true ≡ true))
bag_takes [] h = inl refl
bag_takes (y ∷ v) h =
    let w = y ∷ v in
    let i = h % length w in
    let m = get_or w i y in
    let e = bag_exited w h m (swap_remove w i m) (omega arith) (get_or_default w i y m (omega arith)) refl in
    inr (m, (e.0, refl, rw (← e.1) e.2), refl)

pub bag_carries : Carries bag (λ _. true)
bag_carries = record {
  clears = λ w f. ((refl, refl), refl);
  posts = λ w m f t. ((t, refl, put_last m w), refl);
  takes = λ w h f. bag_takes w h;
}

-- what a lane holds, where all ten are there
lane_is : (lanes : List (List Message)) (i : ℕ) → length lanes ≡ 10 → i < 10
    → in_lane lanes i ≡ get_or lanes i (in_lane lanes i)
lane_is lanes i ten h = get_or_default lanes i [] (in_lane lanes i) (rw ten h)

ten_or_fewer : (n : ℕ) → (10 ≤ n) ⊎ (n < 10)
ten_or_fewer n = grind arith

-- where no message is picked, none waits
nothing_picked : (lanes : List (List Message)) (s : ℕ) → length lanes ≡ 10 → s < 10
    → length (in_lane lanes (first_filled lanes s)) ≡ 0 → all_lanes lanes ≡ []
nothing_picked lanes s ten h empty =
    let p : List Message → Bool = λ q. eqb (length q) 0 in
    let round = drop s lanes ++ take s lanes in
    let n = prefix_len p round in
    let taken = length-take-le s lanes (omega arith) in
    let long : length round ≡ 10 = omega (arith, length-append (drop s lanes) (take s lanes), length-drop s lanes, taken) in
    let at = rotated lanes s in
    let all : 10 ≤ n = elim (ten_or_fewer n) [
      | inl l ↦ l
      | inr l ↦ absurd (grind (arith, prefix_len_stops p round [] (omega (arith, l, long)), at n ten h l, empty))
    ] in
    none_found lanes s ten h (λ k l. grind (arith, prefix_len_passes p round k [] (omega (arith, l, all)), at k ten h l))

-- the oldest message of a queue, if it is not empty
oldest_or_none : (q : List Message) → (length q ≡ 0) ⊎ ((m : Message) × (slice_get q 0 ≡ Some m))
oldest_or_none [] = inl refl
oldest_or_none (m ∷ q) = inr (m, refl)

-- the message that lanes pick is taken off them
lanes_take : (lanes : List (List Message)) (h : ℕ) → length lanes ≡ 10
    → let lanes' = lanes_taken lanes h in
    (all_lanes lanes ≡ []) ⊎ ((m : Message) × Exits ten_lanes h m lanes lanes' × (are_ten lanes' ≡ true))
lanes_take lanes h ten =
    let i = first_filled lanes (h % 10) in
    let q = in_lane lanes i in
    let l : i < 10 = omega arith in
    elim (oldest_or_none q) [
      | inl e ↦ inl (nothing_picked lanes (h % 10) ten (omega arith) e)
      | inr (m, e) ↦ inr (
        m,
        exited lanes lanes h i q (drop 1 q) (Some m) refl (sym e) (lane_is lanes i ten l) ten l refl refl,
        eqb_is _ 10 (length-set lanes i (drop 1 q) ∙ ten),
      )
    ]

pub lanes_carry : Carries ten_lanes are_ten
lanes_carry = record {
  clears = λ lanes f. ((refl, refl), refl);
  posts = λ lanes m f t.
      let i = lane_of m in
      let q = in_lane lanes i in
      let ten : length lanes ≡ 10 = eqb-true (length lanes) 10 f in (
        (t, refl, put_in_lane lanes lanes i m q (q ++ m ∷ []) refl refl (lane_is lanes i ten (omega arith)) ten refl),
        eqb_is _ 10 (length-set lanes i (q ++ m ∷ []) ∙ ten),
      );
  takes = λ lanes h f. lanes_take lanes h (eqb-true (length lanes) 10 f);
}

-- a loan of a network that carries messages
pub lent_carries : {N : Type 0} (net : Network N) (fit : N → Bool) → Carries net fit
    → Carries (lent net) (λ r. fit r.now)
lent_carries net fit c = record {
  clears = λ r f. let ((e, z), g) = c.clears r.now f in ((refl, z), g);
  posts = λ r m f t. let ((a, e, s), g) = c.posts r.now m f t in ((a, refl, s), g);
  takes = λ r h f. elim (c.takes r.now h f) [
    | inl z ↦ inl z
    | inr (m, (a, e, s), g) ↦ inr (m, (a, refl, s), g)
  ];
}

-- bags that hold the same messages turn away the same, and so do lanes
pub bags_alike : TurnAwayAlike bag bag
bags_alike v w m s = ap (λ n. leb bag_holds n) (same_length v w s)

pub lanes_alike : TurnAwayAlike ten_lanes ten_lanes
lanes_alike v w m s =
    ap (λ n. leb lane_holds n) (same_sums (all_lanes v) (all_lanes w) s (λ x. cond (eqb (lane_of x) (lane_of m)) 1 0))

-- a loan turns away what the network lent does
pub lent_alike : {N : Type 0} (net : Network N) → TurnAwayAlike net net → TurnAwayAlike (lent net) net
lent_alike net h v w m s = h v.now w m s
