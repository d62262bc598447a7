use Rattle.std.proofs.Common.{pos, replicate, subst, sym}
use Rattle.acas_risk.specs.Counts.{AreSecondCosts, model_counting}
use Rattle.acas_risk.specs.declared.counted.Counted.{Counted}
use Rattle.acas_risk.proofs.Costs.{seconds_of_contacts}
use Rattle.acas_risk.proofs.counted.second_costs.Goals as goal

pub returns-in-Contacts : goal.returns-in-Contacts
returns-in-Contacts c = subst (λ (k : Counted). AreSecondCosts (model_counting k c.args.model.now) (replicate 16 (replicate 16 (pos 0)))) (sym c.in-Contacts.is) (seconds_of_contacts c.args.model.now c.grid.ensures.valid)
