use Rattle.std.proofs.Common.{◌≡◌, ℕ, ◌&&◌, nat_lt, is_some}
use Rattle.stations.specs.Members.{members}
use Rattle.station.specs.Stages.{backed_proposal, AreBacked}
use Rattle.station.proofs.stage.StageRecord.backing.Given as goal

abbrev pub invariant-loop-sender : goal.invariant-loop-sender
invariant-loop-sender l = record {
  senders : (j : ℕ) → members l.senders j ≡ (nat_lt j l.sender && is_some (backed_proposal l.self j));
  values : AreBacked l.self l.sender l.values;
}
