use Rattle.calls.proofs.OneWay.{calls_in_one_way, broken_are_no_calls, break_in_one_place}
use Rattle.calls.proofs.bytes_are_read_in_one_way.Goals as goal

pub returns : goal.returns
returns c = record { calls = calls_in_one_way; not_both = broken_are_no_calls; place = break_in_one_place }
