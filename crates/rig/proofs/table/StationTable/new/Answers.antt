use Rattle.stations.specs.Members.{members}
use Rattle.rig.proofs.Tables.{all_opened}
use Rattle.rig.proofs.table.StationTable.new.Goals as goal

pub returns : goal.returns
returns c i =
    all_opened c.loop-station.records (members c.args.openings) c.loop-station.station c.loop-station.invariant.0
    c.loop-station-test.false c.loop-station.invariant.1 i
