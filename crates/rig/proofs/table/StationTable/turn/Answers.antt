use Rattle.std.proofs.Common.{rules}
use Rattle.std.proofs.lemmas.List.{get_or_default}
use Rattle.rig.specs.Tables.{no_record}
use Rattle.rig.proofs.table.StationTable.turn.Goals as goal

pub returns-clause-idle : goal.returns-clause-idle
returns-clause-idle g c =
    rw (get_or_default c.args.self.now.records c.args.station no_record c.index-self-station.result (search rules))
    c.turn.ensures.idle
