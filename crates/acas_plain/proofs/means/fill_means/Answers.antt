use Rattle.std.proofs.Common.{ap, arith}
use Rattle.std.proofs.lemmas.Grind.{common_steps}
use Rattle.acas_spec.specs.Model.{GridData, states}
use Rattle.acas_means.proofs.TableMeans.{means_written}
use Rattle.acas_plain.proofs.means.fill_means.Goals as goal

pub returns-clause-means : goal.returns-clause-means
returns-clause-means c =
    means_written c.args.model.now c.args.below.now c.loop-state.means
    (λ s h. c.loop-state.invariant s (omega (arith, c.states-state-end.ensures.value, ap (λ (g : GridData). states g) c.grid-grid.ensures.value)))

pub nonzero_rem-state : goal.nonzero_rem-state
nonzero_rem-state c = grind (arith, common_steps)

pub loop-state-preserved : goal.loop-state-preserved
loop-state-preserved c = grind (arith, common_steps)
