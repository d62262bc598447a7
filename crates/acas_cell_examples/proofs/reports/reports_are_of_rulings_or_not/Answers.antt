use Rattle.std.proofs.Common.{refl}
use Rattle.acas_cell_examples.specs.Reports.{cells_ruled}
use Rattle.acas_cell_examples.proofs.reports.reports_are_of_rulings_or_not.Goals as goal

pub returns : goal.returns
returns c = record { whole = record { ruled = cells_ruled; rulings = record { all = refl; each = λ place r l. tt }; counted = refl; printed = refl } }
