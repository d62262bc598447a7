use Rattle.std.proofs.Common.{ap}
use Rattle.acas_outside.proofs.Grown.{grows_none}
use Rattle.acas_table_text.specs.Growth.{ending}
use Rattle.acas_table_text.specs.declared.format.Format.{Format}
use Rattle.acas_table_writer.proofs.Growing.{grows_as}
use Rattle.acas_table_writer.proofs.pieces.Pieces.ending.Goals as goal

pub returns-in-Layered-clause-ok : goal.returns-in-Layered-clause-ok
returns-in-Layered-clause-ok g c = λ m holds.
    grows_as _ _ c.args.name.now _ _ (ap (λ (f : Format). ending f m) c.in-Layered.is) (grows_none _ c.args.name.now c.requires.held)
