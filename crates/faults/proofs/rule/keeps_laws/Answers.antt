use Rattle.agreement.proofs.Quorums.{closed_ignores}
use Rattle.faults.specs.Senses.{family}
use Rattle.faults.specs.RuleLaws.{sense_parts}
use Rattle.faults.proofs.rule.keeps_laws.Goals as goal

pub returns : goal.returns
returns g c =
    let f = g.F.FaultRule.families c.args.rule.now in
    let l = g.met.F.FaultRule.laws c.args.rule.now in
    record {
      sized = g.met.F.FaultRule.sized c.args.rule.now;
      laws = l;
      ignores_others = λ s. closed_ignores f.n (family f s) (sense_parts f l s);
    }
