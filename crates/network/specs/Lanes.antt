-- The lanes: ten queues, by addressee.
use Rattle.std.specs.Prelude.{◌≡◌, ℕ, Bool, ◌+◌, ◌%◌, ◌≤◌, List, [], ◌∷◌, ◌++◌, length, replicate, take, drop, Option, slice_get, slice_set, slice_index_or, nat_le, ◌==◌}
use Rattle.std.specs.List.{All, count_by, flat_map, prefix_len}
use Rattle.agreement.specs.declared.message.Message.{Message}
use Rattle.agreement.specs.Networks.{Network}

-- The lane of a message.
abbrev pub lane_of : Message → ℕ
lane_of m = m.addressee % 10

-- What waits in lane i, the oldest first.
abbrev pub in_lane : List (List Message) → ℕ → List Message
in_lane lanes i = slice_index_or lanes i []

-- What waits, lane by lane.
abbrev pub all_lanes : List (List Message) → List Message
all_lanes lanes = flat_map (λ q. q) lanes

-- How many of the messages are for lane i.
abbrev pub load : ℕ → List Message → ℕ
load i w = count_by (λ m. lane_of m == i) w

-- How many messages a lane holds.
abbrev pub lane_holds : ℕ
lane_holds = 40

-- The first lane from lane s on, going round, in which a message waits; lane s if nothing waits.
abbrev pub first_filled : List (List Message) → ℕ → ℕ
first_filled lanes s = (s + prefix_len (λ q. length q == 0) (drop s lanes ++ take s lanes)) % 10

-- The oldest message there, if one waits.
abbrev pub lanes_pick : List (List Message) → ℕ → Option Message
lanes_pick lanes hint = slice_get (in_lane lanes (first_filled lanes (hint % 10))) 0

-- The lanes once m waits behind the others of its lane.
abbrev pub lanes_posted : List (List Message) → Message → List (List Message)
lanes_posted lanes m = slice_set lanes (lane_of m) (in_lane lanes (lane_of m) ++ m ∷ [])

-- The lanes once that message is taken off.
abbrev pub lanes_taken : List (List Message) → ℕ → List (List Message)
lanes_taken lanes hint = let i = first_filled lanes (hint % 10) in slice_set lanes i (drop 1 (in_lane lanes i))

-- The network that lanes are: a lane turns away each message more than it holds, and it may be that all are for one lane.
abbrev pub ten_lanes : Network (List (List Message))
ten_lanes = record {
  waiting = all_lanes;
  turns_away = λ lanes m. nat_le lane_holds (load (lane_of m) (all_lanes lanes));
  picks = lanes_pick;
  cleared = λ lanes. replicate 10 [];
  posted = lanes_posted;
  taken = lanes_taken;
}

-- There are ten lanes.
abbrev pub are_ten : List (List Message) → Bool
are_ten lanes = length lanes == 10

-- Ten queues, none of more messages than a lane holds, and those in lane i are for lane i.
pub record AreLanes (lanes : List (List Message)) : Type 0 where
  pub ten : length lanes ≡ 10
  pub fit : (i : ℕ) → length (in_lane lanes i) ≤ lane_holds
  pub by_addressee : (i : ℕ) → All (λ m. lane_of m ≡ i) (in_lane lanes i)
