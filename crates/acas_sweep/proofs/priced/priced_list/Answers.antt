use Rattle.std.proofs.Common.{refl, arith}
use Rattle.std.proofs.lemmas.Grind.{common_steps}
use Rattle.acas_means.proofs.ChoiceLists.{choices-few}
use Rattle.acas_sweep.proofs.priced.priced_list.Goals as goal

pub loop-place-init : goal.loop-place-init
loop-place-init c = record {
  few = choices-few c.args.model.now c.args.present c.grid.ensures.valid c.requires;
  long = refl;
  advisory = λ k here. absurd (omega arith);
  choice = λ k here. absurd (omega arith);
}

pub loop-place-preserved : goal.loop-place-preserved
loop-place-preserved c = grind (arith, common_steps)
