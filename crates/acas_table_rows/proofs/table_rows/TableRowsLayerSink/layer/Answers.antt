use Rattle.std.proofs.Common.{List, ℕ, Bool, ap}
use Rattle.std.proofs.Math.Bool.{Bool-set}
use Rattle.std.proofs.Math.Logic.{∥∥₁_elim}
use Rattle.acas_outside.proofs.Grown.{held_grown}
use Rattle.acas_table_text.specs.Text.{layer_of}
use Rattle.acas_table_writer.specs.Writer.{writer_state}
use Rattle.acas_table_rows.proofs.BegunWriters.{begun-next, held-told, is_started, takes_layers-next}
use Rattle.acas_table_rows.proofs.table_rows.TableRowsLayerSink.layer.Goals as goal

pub invariant_of-begun : goal.invariant_of-begun
invariant_of-begun g c = record {
  begun =
      begun-next c.layer.result c.args.self.now.begun.now.writer c.layer.new.self (layer_of c.args.pairs.now c.args.advice.now) c.args.self.now.begun.now.begun
      (is_started _ _ _ _ c.requires.left) c.layer.ensures.state c.layer.ensures.appends.written;
}

pub returns-in-Ok-clause-left : goal.returns-in-Ok-clause-left
returns-in-Ok-clause-left g c =
    takes_layers-next (writer_state c.args.self.now.begun.now.writer) (writer_state c.layer.new.self) _ _ _ _ c.in-Ok.ensures.state
    (ap (λ (serves : List ℕ → Bool). serves c.args.self.now.name.now) c.layer.ensures.appends.frame.serves)
    (∥∥₁_elim (c.args.self.now.begun.now.begun (is_started _ _ _ _ c.requires.left)) (Bool-set _ _) (λ some. held-told _ _ (held_grown _ _ c.args.self.now.name.now _ (c.in-Ok.ensures.appends.ok some.0 some.1))))
    c.requires.left
