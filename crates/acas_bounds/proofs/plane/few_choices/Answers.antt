use Rattle.std.proofs.Common.{arith}
use Rattle.acas_means.proofs.ChoiceLists.{choices-few}
use Rattle.acas_bounds.proofs.plane.few_choices.Goals as goal

pub returns-clause-few : goal.returns-clause-few
returns-clause-few c = omega (arith, c.choice_count.ensures.value, choices-few c.args.model.now c.args.present c.grid.ensures.valid c.requires)
