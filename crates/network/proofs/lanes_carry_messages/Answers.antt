use Rattle.network.proofs.Carrying.{lanes_carry, lanes_alike}
use Rattle.network.proofs.lanes_carry_messages.Goals as goal

pub returns-clause-carries : goal.returns-clause-carries
returns-clause-carries c = lanes_carry

pub returns-clause-by_what_waits : goal.returns-clause-by_what_waits
returns-clause-by_what_waits c = lanes_alike
