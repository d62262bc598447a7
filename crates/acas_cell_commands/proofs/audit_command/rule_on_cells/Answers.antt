use Rattle.std.proofs.Common.{refl, inr, subst, [], ◌∷◌, arith}
use Rattle.std.proofs.lemmas.Grind.{common_steps}
use Rattle.std.specs.FinMap.{get}
use Rattle.std.proofs.lemmas.Result.{err_from_is_err_and}
use Rattle.acas_base.specs.Advices.{AreAdvices}
use Rattle.acas_outside.specs.Outside.{Outside, outside}
use Rattle.acas_command.specs.Called.{reading}
use Rattle.acas_command.specs.Outcome.{prints, report_cause, reports}
use Rattle.acas_command.proofs.Behind.{answers-printed, told-kept, told-map}
use Rattle.acas_command.proofs.Reports.{answers-refer, may_print-report_cause}
use Rattle.acas_table_file.specs.Calls.{with_table}
use Rattle.acas_cell_commands.specs.AuditCalls.{CallsForAudit}
use Rattle.acas_cell_commands.proofs.Decisions.{counts-looking, counts-report}
use Rattle.acas_cell_commands.proofs.AuditFiles.{audit-behind_model, audit-refers, table-of}
use Rattle.acas_cell_commands.proofs.audit_command.rule_on_cells.Goals as goal

pub returns-in_err-advices-clause-answers : goal.returns-in_err-advices-clause-answers
returns-in_err-advices-clause-answers g c model told =
    let m = c.args.found.now.model in
    let digest = c.args.found.now.digest in
    let table = c.args.table.now in
    let before : Outside = outside g.F.Folder g.O.Sink c.args.folder.now c.args.out.now in
    let after : Outside = outside g.F.Folder g.O.Sink c.read_table_file.new.folder c.args.out.now in
    let p = err_from_is_err_and c.from_residual.result c.from_residual.ensures.1 in
    rw (p.1, p.2)
    (answers-refer (λ files. with_table m digest (get files table) (λ bytes. prints [])) (reading (table ∷ []) (CallsForAudit model table c.args.which)) c.in_err-advices.field-0.0 before after c.in_err-advices.ensures.refused
    (told-map before.holds _ _
    (λ files is. audit-refers model table c.args.which files (λ fs. with_table m digest (get fs table) (λ bytes. prints [])) (audit-behind_model model table digest m files is))
    told)
    (c.in_err-advices.ensures.err [] (λ files bytes. prints []) _ _))

pub returns-in-Ok-clause-answers : goal.returns-in-Ok-clause-answers
returns-in-Ok-clause-answers g c model told =
    let m = c.args.found.now.model in
    let digest = c.args.found.now.digest in
    let table = c.args.table.now in
    let advices = c.in_ok-advices.advices in
    let counts = c.in-Ok.counts in
    let r = c.in-Ok.ensures.report in
    let before : Outside = outside g.F.Folder g.O.Sink c.args.folder.now c.args.out.now in
    let after : Outside = outside g.F.Folder g.O.Sink c.read_table_file.new.folder c.write_blocks.new.sink in
    answers-printed (reading (table ∷ []) (CallsForAudit model table c.args.which)) (report_cause counts.reported) (reports counts.reported r.0) before after (may_print-report_cause counts.reported)
    (told-map before.holds _ _ (λ files is. inr (record {
      reported = counts.reported;
      text = r.0;
      report = record { m = m; advices = advices; advised = is; counts = counts; report = r.1; count = refl };
      is = refl;
    }))
    (table-of model table digest m advices before.holds _ refl told c.in_ok-advices.ensures.ok
    c.in_ok-advices.ensures.advices (subst AreAdvices c.advices.view_is c.advices.invariant))) refl
    (told-kept before.holds after.holds c.read_table_file.ensures.frame.holds) r.2 c.read_table_file.ensures.once

pub returns-in_err-advices-clause-work : goal.returns-in_err-advices-clause-work
returns-in_err-advices-clause-work g c model within told =
    let p = err_from_is_err_and c.from_residual.result c.from_residual.ensures.1 in
    rw (p.1, p.2) (counts-looking model c.args.table.now (g.F.Folder.holds c.args.folder.now) c.in_err-advices.field-0.0 c.args.count.now c.args.count.now refl c.in_err-advices.ensures.refused)

pub returns-in-Ok-clause-work : goal.returns-in-Ok-clause-work
returns-in-Ok-clause-work g c model within told =
    let m = c.args.found.now.model in
    let advices = c.in_ok-advices.advices in
    let counted = c.in-Ok.ensures.decisions in
    let holds = g.F.Folder.holds c.args.folder.now in
    counts-report model c.args.table.now holds c.in-Ok.counts.reported c.args.count.now c.write_blocks.new.count (record {
      m = m;
      advices = advices;
      within = within;
      fits = c.in_ok-advices.ensures.advices;
      advised = table-of model c.args.table.now c.args.found.now.digest m advices holds _ refl told c.in_ok-advices.ensures.ok
          c.in_ok-advices.ensures.advices (subst AreAdvices c.advices.view_is c.advices.invariant);
      number = counted.0;
      decided = counted.1;
      raised = counted.2;
    })

pub returns-in_err-advices-clause-folder : goal.returns-in_err-advices-clause-folder
returns-in_err-advices-clause-folder g c = grind (arith, common_steps)

pub returns-in-Err-Sink : goal.returns-in-Err-Sink
returns-in-Err-Sink g c = grind (arith, common_steps)

pub returns : goal.returns
returns g c = grind (arith, common_steps)
