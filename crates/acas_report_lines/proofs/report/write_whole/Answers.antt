use Rattle.std.proofs.Common.{arith, refl}
use Rattle.acas_outside.proofs.Appended.{on_err_always}
use Rattle.acas_report_lines.proofs.Whole.{whole, begun_before, begun_last}
use Rattle.acas_report_lines.proofs.CellCounts.{room_whole}
use Rattle.acas_report_lines.proofs.Decided.{decisions_fit}
use Rattle.acas_report_lines.proofs.Subject.{of_cells}
use Rattle.acas_report_lines.proofs.report.write_whole.Goals as goal

pub write_cells-requires-clause-room : goal.write_cells-requires-clause-room
write_cells-requires-clause-room g c =
    room_whole c.args.audit.now.model.now c.args.audit.now.advices.now c.args.audit.now.which _
    c.grid.ensures.valid c.requires.certified c.requires.reported c.requires.clear

pub returns-in_err-write_cells-clause-err : goal.returns-in_err-write_cells-clause-err
returns-in_err-write_cells-clause-err g c =
    let is = of_cells c.args.audit.now.model.now c.args.audit.now.advices.now c.args.audit.now.which in
    on_err_always _ (begun_before _ _ _ _ _ _ is _ _ _ c.in_err-write_cells.ensures.err c.requires.empty)

pub returns-in_err-end-clause-err : goal.returns-in_err-end-clause-err
returns-in_err-end-clause-err g c =
    let is = of_cells c.args.audit.now.model.now c.args.audit.now.advices.now c.args.audit.now.which in
    on_err_always _ (begun_last _ _ _ _ _ _ is _ _ _ _ c.in_ok-write_cells.ensures.ok
    (record { waits = c.requires.empty; certified = c.requires.certified; reported = c.requires.reported; clear = c.requires.clear })
    c.write_counts.ensures.value c.in_err-end.ensures.err)

pub returns-clause-ok : goal.returns-clause-ok
returns-clause-ok g c =
    let is = of_cells c.args.audit.now.model.now c.args.audit.now.advices.now c.args.audit.now.which in
    whole _ _ _ _ _ _ is _ _ _ _ _ c.in_ok-write_cells.ensures.ok
    (record { waits = c.requires.empty; certified = c.requires.certified; reported = c.requires.reported; clear = c.requires.clear })
    refl c.write_counts.ensures.value c.in_ok-end.ensures.ok

pub write_cells-requires-clause-decisions : goal.write_cells-requires-clause-decisions
write_cells-requires-clause-decisions g c = omega (arith, c.requires.decisions, decisions_fit c.args.audit.now.model.now c.grid.ensures.valid)
