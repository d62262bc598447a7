use Rattle.std.proofs.Common.{◌≢◌, ℕ, ◌-◌, ◌<◌}
use Rattle.acas_spec.specs.Model.{choices_at}
use Rattle.acas_process.specs.Compiled.{least}
use Rattle.acas_means.specs.Choices.{listed_choice, value_by_mean}
use Rattle.acas_means.specs.Layer.{value_at}
use Rattle.acas_means.specs.declared.layer.Side.TheVariants.{Upper}
use Rattle.acas_sweep.proofs.best.first_choice.Given as goal

abbrev pub invariant-loop-place : goal.invariant-loop-place
invariant-loop-place l = record {
  inside : l.place < l.list.count;
  none : (k : ℕ) → k < l.place → value_by_mean l.model l.present (value_at Upper l.vertex_means) (listed_choice l.model l.present k).advisory ≢ least (value_by_mean l.model l.present (value_at Upper l.vertex_means)) (choices_at l.model l.present);
}

abbrev pub decreases-loop-place : goal.decreases-loop-place
decreases-loop-place l = l.list.count - l.place
