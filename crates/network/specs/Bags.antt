-- The bag.
use Rattle.std.specs.Prelude.{ℕ, ◌%◌, List, [], ◌∷◌, ◌++◌, length, Option, slice_get, nat_le}
use Rattle.std.specs.Option.{option_map_or}
use Rattle.std.specs.List.{swap_remove}
use Rattle.agreement.specs.declared.message.Message.{Message}
use Rattle.agreement.specs.Networks.{Network}

-- How many messages a bag holds.
abbrev pub bag_holds : ℕ
bag_holds = 4096

-- The message at place hint mod count, if one waits.
abbrev pub bag_pick : List Message → ℕ → Option Message
bag_pick w hint = slice_get w (hint % length w)

-- The bag once m waits too, behind the others.
abbrev pub bag_posted : List Message → Message → List Message
bag_posted w m = w ++ m ∷ []

-- The bag once the picked message is taken off: the last one moves into its place.
abbrev pub bag_taken : List Message → ℕ → List Message
bag_taken w hint = option_map_or (swap_remove w (hint % length w)) (bag_pick w hint) w

-- The network that a bag is: it turns away each message more than it holds.
abbrev pub bag : Network (List Message)
bag = record {
  waiting = λ w. w;
  turns_away = λ w m. nat_le bag_holds (length w);
  picks = bag_pick;
  cleared = λ w. [];
  posted = bag_posted;
  taken = bag_taken;
}
