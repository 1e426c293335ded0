use Rattle.network.proofs.Carrying.{bag_carries, bags_alike}
use Rattle.network.proofs.bags_carry_messages.Goals as goal

pub returns-clause-carries : goal.returns-clause-carries
returns-clause-carries c = bag_carries

pub returns-clause-by_what_waits : goal.returns-clause-by_what_waits
returns-clause-by_what_waits c = bags_alike
