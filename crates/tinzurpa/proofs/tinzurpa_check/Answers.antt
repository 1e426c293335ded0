use Rattle.tinzurpa.proofs.Numbers.{checked, zero, well_formed}
use Rattle.tinzurpa.proofs.tinzurpa_check.Goals as goal

pub returns-clause-checked : goal.returns-clause-checked
returns-clause-checked c = checked c.args.file.now c.read.result c.number.result c.read.ensures c.number.ensures

pub returns-clause-zero : goal.returns-clause-zero
returns-clause-zero c z = zero c.args.file.now c.read.result c.number.result c.read.ensures c.number.ensures z

pub returns-clause-well_formed : goal.returns-clause-well_formed
returns-clause-well_formed c w = well_formed c.args.file.now c.read.result c.number.result c.read.ensures c.number.ensures w
