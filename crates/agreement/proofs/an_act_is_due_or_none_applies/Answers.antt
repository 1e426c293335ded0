use Rattle.agreement.proofs.Due.{due_or_idle}
use Rattle.agreement.proofs.an_act_is_due_or_none_applies.Goals as goal

pub returns : goal.returns
returns c = due_or_idle
