use Rattle.std.proofs.Common.{◌+◌, rules, arith}
use Rattle.std.proofs.lemmas.Grind.{common_steps}
use Rattle.acas_sweep.specs.Handed.{compiled_layer}
use Rattle.acas_table_rows.proofs.SweptTable.{frame_added, frame_cut, stored_added, stored_cut, writing_added}
use Rattle.acas_table_rows.proofs.swept_table.append_swept.Goals as goal

pub returns-in-Err-Rows-clause-err : goal.returns-in-Err-Rows-clause-err
returns-in-Err-Rows-clause-err g c = λ before start.
    stored_cut g.F.Folder c.args.found.now.digest c.args.found.now.model _ c.sweep_to.new.rows _ c.requires.writing c.in-Err-Rows.ensures.hands.err (search rules) before start

pub returns-in-Err-Rows-clause-frame : goal.returns-in-Err-Rows-clause-frame
returns-in-Err-Rows-clause-frame g c =
    frame_cut g.F.Folder (compiled_layer c.args.found.now.model) _ (c.args.found.now.model.grid.horizon + 1) c.sweep_to.new.rows _ c.in-Err-Rows.ensures.hands.err (search rules) c.in-Err-Rows.ensures.hands.failed

pub returns-in-Ok-clause-ok : goal.returns-in-Ok-clause-ok
returns-in-Ok-clause-ok g c = λ before start.
    stored_added g.F.Folder c.args.found.now.digest c.args.found.now.model _ (c.args.found.now.model.grid.horizon + 1) c.sweep_to.new.rows _ c.requires.writing c.in-Ok.ensures.hands.ok (search rules) before start

pub returns-in-Ok-clause-writing : goal.returns-in-Ok-clause-writing
returns-in-Ok-clause-writing g c =
    writing_added g.F.Folder c.args.found.now.digest c.args.found.now.model _ (c.args.found.now.model.grid.horizon + 1) c.sweep_to.new.rows _ c.requires.writing c.in-Ok.ensures.hands.ok (search rules)

pub returns-in-Ok-clause-frame : goal.returns-in-Ok-clause-frame
returns-in-Ok-clause-frame g c =
    frame_added g.F.Folder (compiled_layer c.args.found.now.model) _ (c.args.found.now.model.grid.horizon + 1) c.sweep_to.new.rows _ c.in-Ok.ensures.hands.ok (search rules) (λ failed. cc failed)

pub returns-in-Ok-clause-counted : goal.returns-in-Ok-clause-counted
returns-in-Ok-clause-counted g c = grind (arith, common_steps)

pub returns-in-Ok-clause-rising : goal.returns-in-Ok-clause-rising
returns-in-Ok-clause-rising g c = grind (arith, common_steps)
