use Rattle.std.proofs.Common.{◌+◌, [], List, ℕ, refl, inr, le_refl, arith}
use Rattle.std.proofs.lemmas.Grind.{merely, common_steps}
use Rattle.std.proofs.lemmas.Result.{err_from_is_err_and, on_ok_weaker}
use Rattle.acas_spec.specs.Model.{ModelData}
use Rattle.acas_table_text.specs.Shape.{shape_of}
use Rattle.acas_table_writer.specs.Writer.{writer_state}
use Rattle.acas_outside.proofs.Grown.{held_stored}
use Rattle.acas_table_rows.specs.TableFile.{compiled_entries}
use Rattle.acas_table_rows.proofs.StoredLayers.{start_is, stored_all, stored_first, writes_then}
use Rattle.acas_table_rows.proofs.swept_table.store_swept.Goals as goal

pub returns-in_err-start : goal.returns-in_err-start
returns-in_err-start g c =
    let m : ModelData = c.args.found.now.model in
    let p = err_from_is_err_and c.from_residual.result c.from_residual.ensures.1 in
    rw p.1 (record {
      ok = tt;
      err = start_is c.args.found.now.digest (shape_of m.grid) (compiled_entries m) _ _ c.args.name.now (writer_state c.args.writer) c.requires.state c.in_err-start.ensures.err;
      length = tt;
      frame = c.in_err-start.ensures.frame;
      counted = tt;
      turns = tt;
      rising = le_refl _;
      rising_turned = le_refl _;
    })

pub invariant_of-begun : goal.invariant_of-begun
invariant_of-begun g c = record { begun = λ started. merely ([], c.in_ok-start.ensures.written [] c.requires.written) }

pub append_swept-requires-clause-held : goal.append_swept-requires-clause-held
append_swept-requires-clause-held g c = held_stored _ _ _ _ c.in_ok-start.ensures.ok

pub append_swept-requires-clause-writing : goal.append_swept-requires-clause-writing
append_swept-requires-clause-writing g c = grind (arith, common_steps)

pub returns-in_err-append_swept : goal.returns-in_err-append_swept
returns-in_err-append_swept g c =
    let m : ModelData = c.args.found.now.model in
    let stored = stored_first c.args.found.now.digest (shape_of m.grid) (compiled_entries m) _ _ c.args.name.now (writer_state c.args.writer) c.requires.state c.in_ok-start.ensures.ok in
    let p = err_from_is_err_and c.from_residual-in_err-append_swept.result c.from_residual-in_err-append_swept.ensures.1 in
    rw p.1 (record {
      ok = tt;
      err = inr (c.in_err-append_swept.ensures.err (g.F.Folder.holds c.args.folder.now) stored);
      length = tt;
      frame = writes_then g.F.Folder _ _ _ _ _ c.in_ok-start.ensures.frame c.in_err-append_swept.ensures.frame;
      counted = tt;
      turns = tt;
      rising = c.append_swept.ensures.rising;
      rising_turned = c.append_swept.ensures.rising_turned;
    })

pub finish-requires-clause-held : goal.finish-requires-clause-held
finish-requires-clause-held g c =
    let m : ModelData = c.args.found.now.model in
    let stored = stored_first c.args.found.now.digest (shape_of m.grid) (compiled_entries m) _ _ c.args.name.now (writer_state c.args.writer) c.requires.state c.in_ok-start.ensures.ok in
    held_stored _ _ _ _ (c.in_ok-append_swept.ensures.ok _ stored)

pub returns-clause-ok : goal.returns-clause-ok
returns-clause-ok g c =
    let m : ModelData = c.args.found.now.model in
    let digest : List ℕ = c.args.found.now.digest in
    let stored = stored_first digest (shape_of m.grid) (compiled_entries m) _ _ c.args.name.now (writer_state c.args.writer) c.requires.state c.in_ok-start.ensures.ok in
    on_ok_weaker c.finish.result
    (stored_all digest (shape_of m.grid) (compiled_entries m) _ _ _ c.args.name.now (writer_state c.append_swept.new.begun.writer) (m.grid.horizon + 1) c.in_ok-append_swept.ensures.writing.state refl
    (c.in_ok-append_swept.ensures.ok _ stored))
    (c.finish.ensures.ok _ c.in_ok-append_swept.ensures.writing.written)

pub returns-clause-err : goal.returns-clause-err
returns-clause-err g c = grind (arith, common_steps)

pub returns-clause-frame : goal.returns-clause-frame
returns-clause-frame g c =
    writes_then g.F.Folder _ _ _ _ _ c.in_ok-start.ensures.frame (writes_then g.F.Folder _ _ _ _ _ c.in_ok-append_swept.ensures.frame c.finish.ensures.frame)

pub returns-clause-counted : goal.returns-clause-counted
returns-clause-counted g c = on_ok_weaker c.finish.result (λ grown. c.in_ok-append_swept.ensures.counted) (c.finish.ensures.ok _ c.in_ok-append_swept.ensures.writing.written)

pub returns-clause-turns : goal.returns-clause-turns
returns-clause-turns g c = on_ok_weaker c.finish.result (λ grown. c.in_ok-append_swept.ensures.turns) (c.finish.ensures.ok _ c.in_ok-append_swept.ensures.writing.written)
