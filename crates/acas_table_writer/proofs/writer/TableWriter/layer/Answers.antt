use Rattle.std.proofs.Common.{refl, arith}
use Rattle.acas_table_writer.proofs.Written.{writes_layer}
use Rattle.acas_table_writer.proofs.writer.TableWriter.layer.Goals as goal

pub returns-clause-appends : goal.returns-clause-appends
returns-clause-appends g c = record {
  ok = λ layers written. c.in_ok-layer.ensures.ok _ written.hashed;
  err = λ layers written. tt;
  written = λ layers written. writes_layer c.args.self.now _ layers _ written refl refl refl (c.in_ok-layer.ensures.hashed _ written.hashed);
  frame = grind arith;
}
