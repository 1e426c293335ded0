use Rattle.std.proofs.Common.{◌≡◌}
use Rattle.acts.specs.Payloads.{payload_of}
use Rattle.rig.specs.Settings.{among}
use Rattle.rig.specs.Posts.{Told}
use Rattle.rig.proofs.posts.Posts.broadcast.Given as goal

abbrev pub invariant-loop-addressee : goal.invariant-loop-addressee
invariant-loop-addressee g l =
    Told g.N.Network.net (among l.own) l.sender (payload_of l.payload) l.addressee l.fn.network l.network l.posts
    × (g.N.Network.floor l.network ≡ g.N.Network.floor l.fn.network)
