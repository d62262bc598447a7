use Rattle.std.proofs.Common.{◌≡◌, ◌≤◌, ℕ, List, Ok, refl, inr, arith}
use Rattle.std.proofs.lemmas.Grind.{common_steps}
use Rattle.std.specs.Prelude.{Result, ⊤}
use Rattle.std.proofs.lemmas.Result.{err_from_is_err_and, on_ok_weaker}
use Rattle.acas_units.specs.declared.pair.Entry.{Entry}
use Rattle.acas_outside.proofs.Grown.{held_stored}
use Rattle.acas_table_text.specs.Shape.{shape_of}
use Rattle.acas_table_text.specs.Text.{layer_of}
use Rattle.acas_table_text.specs.declared.shape.TableShape.{TableShape}
use Rattle.acas_table_writer.specs.Writer.{writer_state}
use Rattle.acas_table_rows.specs.TableFile.{entries_of}
use Rattle.acas_table_rows.proofs.StoredLayers.{part_of_next, start_is, stored_all, stored_next, writes_then, writing_next}
use Rattle.acas_table_rows.proofs.stored_layers.store_layers.Goals as goal

pub returns-in_err-start : goal.returns-in_err-start
returns-in_err-start g c =
    let s : TableShape = shape_of c.args.found.now.model.grid in
    let layer : ℕ → List Entry = entries_of c.args.layers.now in
    let p = err_from_is_err_and c.from_residual.result c.from_residual.ensures.1 in
    rw p.1 (record {
      ok = tt;
      err = start_is c.args.found.now.digest s layer _ _ c.args.name.now (writer_state c.args.writer) c.requires.state c.in_err-start.ensures.err;
      length = tt;
      frame = c.in_err-start.ensures.frame;
    })

pub loop-n-init : goal.loop-n-init
loop-n-init g c = grind (arith, common_steps)

pub layer-requires-clause-held : goal.layer-requires-clause-held
layer-requires-clause-held g c = held_stored _ _ _ _ c.loop-n.invariant.stored

pub returns-in_err-layer : goal.returns-in_err-layer
returns-in_err-layer g c =
    let s : TableShape = shape_of c.args.found.now.model.grid in
    let layer : ℕ → List Entry = entries_of c.args.layers.now in
    let within : c.loop-n.n ≤ s.horizon = grind arith in
    let same : layer_of c.pairs.result.now c.advice.result.now ≡ entries_of c.args.layers.now c.loop-n.n = rw (c.pairs.ensures.value, c.advice.ensures.value) refl in
    let p = err_from_is_err_and c.from_residual-in_err-layer.result c.from_residual-in_err-layer.ensures.1 in
    rw p.1 (record {
      ok = tt;
      err = inr
          (part_of_next c.args.found.now.digest s layer _ _ _ c.args.name.now c.loop-n.n (writer_state c.loop-n.begun) _ within c.loop-n.invariant.writing.state same c.loop-n.invariant.stored
          (c.in_err-layer.ensures.appends.err _ c.loop-n.invariant.writing.written));
      length = tt;
      frame = writes_then g.F.Folder _ _ _ _ _ c.loop-n.invariant.frame c.in_err-layer.ensures.appends.frame;
    })

pub loop-n-preserved : goal.loop-n-preserved
loop-n-preserved g c =
    let s : TableShape = shape_of c.args.found.now.model.grid in
    let layer : ℕ → List Entry = entries_of c.args.layers.now in
    let same : layer_of c.pairs.result.now c.advice.result.now ≡ entries_of c.args.layers.now c.loop-n.n = rw (c.pairs.ensures.value, c.advice.ensures.value) refl in
    let done : Result ⊤ ⊤ = Ok tt in
    record {
      stored =
          stored_next c.args.found.now.digest s layer _ _ _ c.args.name.now c.loop-n.n (writer_state c.loop-n.begun) _ c.loop-n.invariant.writing.state same c.loop-n.invariant.stored
          (c.in_ok-layer.ensures.appends.ok _ c.loop-n.invariant.writing.written);
      writing =
          writing_next c.args.found.now.digest s layer done c.loop-n.n c.loop-n.begun c.layer.new.self _ c.loop-n.invariant.writing.state same c.in_ok-layer.ensures.state
          (c.in_ok-layer.ensures.appends.written _ c.loop-n.invariant.writing.written);
      frame = grind arith;
    }

pub finish-requires-clause-held : goal.finish-requires-clause-held
finish-requires-clause-held g c = held_stored _ _ _ _ c.loop-n.invariant.stored

pub returns-clause-ok : goal.returns-clause-ok
returns-clause-ok g c =
    let s : TableShape = shape_of c.args.found.now.model.grid in
    let layer : ℕ → List Entry = entries_of c.args.layers.now in
    on_ok_weaker c.finish.result
    (stored_all c.args.found.now.digest s layer _ _ _ c.args.name.now (writer_state c.loop-n.begun) c.loop-n.n c.loop-n.invariant.writing.state (grind arith) c.loop-n.invariant.stored)
    (c.finish.ensures.ok _ c.loop-n.invariant.writing.written)

pub returns-clause-err : goal.returns-clause-err
returns-clause-err g c = grind (arith, common_steps)

pub layer-requires-clause-advice : goal.layer-requires-clause-advice
layer-requires-clause-advice g c = grind (arith, common_steps)

pub layer-requires-clause-pairs : goal.layer-requires-clause-pairs
layer-requires-clause-pairs g c = grind (arith, common_steps)

pub pairs-requires : goal.pairs-requires
pairs-requires g c = grind (arith, common_steps)

pub finish-requires-clause-all : goal.finish-requires-clause-all
finish-requires-clause-all g c = grind (arith, common_steps)

pub layer-requires-clause-more : goal.layer-requires-clause-more
layer-requires-clause-more g c = grind (arith, common_steps)

pub advice-requires : goal.advice-requires
advice-requires g c = grind (arith, common_steps)

pub returns-clause-frame : goal.returns-clause-frame
returns-clause-frame g c = writes_then g.F.Folder _ _ _ _ _ c.loop-n.invariant.frame c.finish.ensures.frame
