use Rattle.std.proofs.Common.{rules, ◌≡◌, subst, ◌∙◌, is_err, OnOk}
use Rattle.agreement.specs.declared.message.Message.{Message}
use Rattle.agreement.specs.Networks.{Enters}
use Rattle.acts.specs.Payloads.{payload_of}
use Rattle.rig.specs.Settings.{among}
use Rattle.rig.proofs.Posting.{told_next}
use Rattle.rig.proofs.posts.Posts.broadcast.Goals as goal

pub loop-addressee-preserved : goal.loop-addressee-preserved
loop-addressee-preserved g c =
    let net = g.N.Network.net in
    let l = c.loop-addressee in
    let v = l.network in
    let v' = c.post.new.self in
    let r = c.post.result in (
      told_next net (among c.args.own) c.args.sender (payload_of c.args.payload) l.addressee c.args.network.now v v' l.posts r
          c.is_among-is_own.result c.is_ok-waits.result _ _ c.requires l.invariant.0 c.is_among-is_own.ensures
          c.is_ok-waits.ensures.value
          (subst (λ (m : Message). is_err r ≡ net.turns_away v m) c.to_message.ensures c.post.ensures.variant)
          (subst (λ (m : Message). OnOk r (Enters net m v v')) c.to_message.ensures c.post.ensures.ok) c.post.ensures.err
          (search rules) (search rules),
      c.post.ensures.floor ∙ l.invariant.1,
    )
