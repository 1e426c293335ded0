-- What the posts of a turn come to.
use Rattle.std.specs.Prelude.{◌≡◌, ℕ, ◌+◌, ◌≤◌}
use Rattle.agreement.specs.Sets.{Set}
use Rattle.agreement.specs.Messages.{Payload}
use Rattle.agreement.specs.Networks.{Network}
use Rattle.agreement.specs.Rig.{Says}
use Rattle.rig.specs.declared.posts.Posts.{Posts}
use Rattle.rig.specs.Settings.{count_between}

-- Station i, one of a set, has said p to the stations below k. Between stations of the set so many messages more wait, and so
-- many of those to stations of the set were turned away.
pub record Told {N : Type 0} (net : Network N) (own : Set) (i : ℕ) (p : Payload) (k : ℕ) (w w' : N) (posts : Posts) : Type 0 where
  pub says : Says net own i p k w w' posts.away
  pub entered : count_between own (net.waiting w') ≡ count_between own (net.waiting w) + posts.entered
  pub at_most : posts.entered + posts.away ≤ k
