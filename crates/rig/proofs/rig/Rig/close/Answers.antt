use Rattle.std.proofs.Common.{refl, subst, arith}
use Rattle.agreement.specs.Sets.{Set}
use Rattle.rig.specs.Outcomes.{TellsAll}
use Rattle.rig.specs.Rigs.{view}
use Rattle.rig.proofs.Counts.{posted_within}
use Rattle.rig.proofs.rig.Rig.close.Goals as goal

pub returns-clause-outcome : goal.returns-clause-outcome
returns-clause-outcome g c =
    let r = c.args.self in
    record {
      stations = subst (λ (X : Set). TellsAll X r.setup.rounds.count (view r).station c.outcomes.result) c.own.ensures c.outcomes.ensures;
      posted = refl;
      missing = refl;
    }

pub returns-clause-bound : goal.returns-clause-bound
returns-clause-bound g c = omega (arith, posted_within c.args.self)
