use denote.Text.{Utf8}
use denote.Shadow.{shadow}
use Rattle.std.proofs.Common.{◌≡◌}
use Rattle.std.specs.Fmt.{IsPlainFormatter, HasWritten}
use Rattle.stations.specs.Members.{members}
use Rattle.stations.specs.Text.{comma, listed}
use Rattle.stations.proofs.StationSetDisplay.fmt.Given as goal

abbrev pub invariant-loop-station : goal.invariant-loop-station
invariant-loop-station g l =
    let text = listed l.station-counter (members l.self) in
    shadow (Utf8 l.comma) × (l.comma ≡ comma text)
    × (IsPlainFormatter l.initial.f → HasWritten g.W.Write.write_str_gives l.initial.f text l.f)
