use Rattle.agreement.proofs.EveryRun.{every_run}
use Rattle.agreement.proofs.every_run_keeps_the_law.Goals as goal

pub returns : goal.returns
returns g c = every_run
