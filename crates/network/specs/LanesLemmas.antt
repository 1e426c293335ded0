-- Proved: lanes keep the law `Roomy`.
use Rattle.std.proofs.Common.{List, eqb, arith}
use Rattle.std.proofs.lemmas.Bool.{lt-leb}
use Rattle.std.proofs.lemmas.List.Sums.{count_by-le-length}
use Rattle.agreement.specs.declared.message.Message.{Message}
use Rattle.network.specs.Floors.{Roomy}
use Rattle.network.specs.Lanes.{lane_of, load, all_lanes, ten_lanes, lane_holds}

pub lanes_roomy : (lanes : List (List Message)) → Roomy ten_lanes lane_holds lanes
lanes_roomy lanes = record {
  at_least_16 = omega arith;
  below_floor = λ m h.
      let w = all_lanes lanes in
      let s = count_by-le-length (λ x. eqb (lane_of x) (lane_of m)) w in
      lt-leb 40 (load (lane_of m) w) (omega (arith, s, h));
}
