-- What an act's being due says of the station of the program.
use Rattle.std.proofs.Common.{◌≡◌, ◌≤◌, ◌↔◌, Bool, true, false, not, Option, Some as some, None as none, is_some}
use Rattle.std.proofs.Common.{refl, arith}
use Rattle.agreement.specs.Station.{Rules, Idle, Due}
use Rattle.agreement.specs.Station as model
use Rattle.acts.specs.declared.act.Act.{Act}
use Rattle.acts.specs.declared.act.Act.TheVariants.{Open, Join, Admit, Close, Decide}
use Rattle.acts.specs.Acts.{act_of}
use Rattle.station.specs.declared.station.Station.{Station}
use Rattle.station.specs.Stations.{read}
use Rattle.station.specs.Turns.{DueOrIdle, CanDo}

-- no act is found where none applies, and there alone
pub idle_if_none : (g : Rules) (s : model.Station) (o : Option Act) (b : Bool)
    → DueOrIdle g s o → is_some o ≡ not b → (b ≡ true) ↔ Idle g s
idle_if_none g s none true h e = (λ k. h, λ i. refl)
idle_if_none g s none false h e = cc
idle_if_none g s (some a) true h e = cc
idle_if_none g s (some a) false h e = (λ k. cc, λ i. absurd (i (act_of a) h.0))

-- an act that is due is of a stage of which the station has a record, in up to eight rounds
pub can_do : (g : Rules) (s : Station) (a : Act) → Due g (read s) (act_of a) → g.rounds ≤ 8 → CanDo a s
can_do g s (Open σ v) h r = grind arith
can_do g s (Join σ v) h r = grind arith
can_do g s (Admit σ v) h r = grind arith
can_do g s (Close σ x) h r = (h.0.0, omega (arith, h.0.1, r))
can_do g s (Decide b) h r = tt
