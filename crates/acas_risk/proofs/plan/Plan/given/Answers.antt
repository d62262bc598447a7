use Rattle.acas_grid.proofs.StateNumbers.{state_number-parts}
use Rattle.acas_risk.proofs.plan.Plan.given.Goals as goal

pub returns-in-Tabled-clause-value : goal.returns-in-Tabled-clause-value
returns-in-Tabled-clause-value c = rw (c.in-Tabled.is, state_number-parts c.args.model.now.grid c.args.state) c.at.ensures.value
