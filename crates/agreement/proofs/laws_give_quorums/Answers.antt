use Rattle.agreement.proofs.Quorums.{quorums_meet, quorum_blocks, blocking_reaches_out, quorum_reaches_out}
use Rattle.agreement.proofs.Quorums.{complement_suffices, one_blocks, upward_closed, closed_ignores}
use Rattle.agreement.proofs.laws_give_quorums.Goals as goal

pub returns : goal.returns
returns c = record {
  quorums_meet = quorums_meet;
  quorum_outside_narrow_blocks = quorum_blocks;
  blocking_reaches_outside_wide = blocking_reaches_out;
  quorum_reaches_outside_wide = quorum_reaches_out;
  rest_of_wide_suffices = complement_suffices;
  one_of_two_blocks = one_blocks;
  larger_sets_too = upward_closed;
  stations_from_n_ignored = closed_ignores;
}
