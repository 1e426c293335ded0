use Rattle.std.proofs.Common.{◌<◌, sym, ◌∙◌, arith}
use Rattle.station.specs.Stages.{backed_proposal}
use Rattle.station.proofs.Backing.{senders_none, senders_on, senders_off, values_none, values_on, values_off}
use Rattle.station.proofs.stage.StageRecord.backing.Goals.{in-Some, in_default}
use Rattle.station.proofs.stage.StageRecord.backing.Goals as goal

pub loop-sender-init : goal.loop-sender-init
loop-sender-init c = record {
  senders = senders_none (backed_proposal c.args.self.now);
  values = values_none (backed_proposal c.args.self.now);
}

pub loop-sender-preserved : goal.loop-sender-preserved
loop-sender-preserved c =
    let o = backed_proposal c.args.self.now in
    let k = c.loop-sender.invariant in
    let n = c.loop-sender.sender in
    let below : n < 16 = omega (arith, c.requires) in
    elim c.match-backed_proposal.branch [
      | in-Some w ↦
          let at = sym c.backed_proposal.ensures ∙ w.in-Some.is in
          record {
            senders = rw w.senders-is (senders_on o n w.in-Some.value _ _ at below w.with-senders.ensures k.senders);
            values = rw w.values-is (values_on o n w.in-Some.value _ _ at w.with-values.ensures k.values);
          }
      | in_default w ↦
          let at = sym c.backed_proposal.ensures ∙ w.in_default.is in
          record {
            senders = rw w.senders-is (senders_off o n _ at k.senders);
            values = rw w.values-is (values_off o n _ at k.values);
          }
    ]
