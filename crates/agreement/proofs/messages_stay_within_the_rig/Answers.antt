use Rattle.agreement.proofs.Within.{messages_stay_within}
use Rattle.agreement.proofs.messages_stay_within_the_rig.Goals as goal

pub returns : goal.returns
returns g c = messages_stay_within
