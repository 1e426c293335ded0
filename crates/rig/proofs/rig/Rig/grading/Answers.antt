use Rattle.std.proofs.Common.{ap, ◌∙◌, ◌+◌, ◌*◌}
use Rattle.agreement.specs.Station.{Station}
use Rattle.rig.proofs.rig.Rig.grading.Goals as goal

pub returns-clause-grading : goal.returns-clause-grading
returns-clause-grading g c =
    c.grading.ensures ∙ ap (λ (s : Station). s.grading (4 * c.args.round + 2 * c.args.half + 1)) c.record.ensures
