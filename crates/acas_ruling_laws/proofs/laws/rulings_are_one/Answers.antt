use Rattle.acas_ruling_laws.proofs.RulingOnes.{boxes-one, cells-one}
use Rattle.acas_ruling_laws.proofs.RulingSomes.{boxes-some, cells-some}
use Rattle.acas_ruling_laws.proofs.laws.rulings_are_one.Goals as goal

pub returns-clause-cells_some : goal.returns-clause-cells_some
returns-clause-cells_some c = cells-some

pub returns-clause-cells_one : goal.returns-clause-cells_one
returns-clause-cells_one c = λ m name r s is cell known i j. cells-one m name r s is known i j

pub returns-clause-boxes_some : goal.returns-clause-boxes_some
returns-clause-boxes_some c = boxes-some

pub returns-clause-boxes_one : goal.returns-clause-boxes_one
returns-clause-boxes_one c = boxes-one
