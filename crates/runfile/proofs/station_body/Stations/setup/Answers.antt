use Rattle.std.proofs.Common.{rules}
use Rattle.stations.specs.Members.{members}
use Rattle.runfile.proofs.Entered.{none_yet, guest_more, bit_more, all_entered}
use Rattle.runfile.proofs.station_body.Stations.setup.Goals as goal

pub loop-station-init : goal.loop-station-init
loop-station-init c = search (rules, none_yet (members c.args.self.now.guests), none_yet (members c.args.self.now.openings))

pub loop-station-preserved : goal.loop-station-preserved
loop-station-preserved c =
    let k = c.loop-station.station in
    let guests = members c.args.self.now.guests in
    let openings = members c.args.self.now.openings in
    search (
      rules,
      guest_more k guests (members c.loop-station.setup.guests) (members c.enter_if_guest.new.setup.guests),
      bit_more k openings (members c.loop-station.setup.openings) (members c.enter_opening.new.self.openings),
    )

pub returns-clause-guests : goal.returns-clause-guests
returns-clause-guests c = search (rules, all_entered c.args.self.now.guests (members c.loop-station.setup.guests))

pub returns-clause-openings : goal.returns-clause-openings
returns-clause-openings c = search (rules, all_entered c.args.self.now.openings (members c.loop-station.setup.openings))
