use Rattle.station.proofs.station.Station.perform.Goals as goal

pub returns-in-Admit-clause-state : goal.returns-in-Admit-clause-state
returns-in-Admit-clause-state g c G e = rw c.in-Admit.is (c.admit.ensures.state G)

pub returns-in-Close-clause-state : goal.returns-in-Close-clause-state
returns-in-Close-clause-state g c G e =
    let k = rw c.in-Close.is at c.requires in rw (c.in-Close.is, k.0) (c.close.ensures.state G e)
