use Rattle.std.proofs.Common.{Option, refl, subst, sym, arith, [], ◌∷◌, rules}
use Rattle.std.proofs.lemmas.Grind.{common_steps}
use Rattle.std.specs.FinMap.{get}
use Rattle.std.proofs.lemmas.Result.{err_from_is_err_and}
use Rattle.acas_outside.specs.Outside.{Outside, outside}
use Rattle.acas_command.specs.Outcome.{prints}
use Rattle.acas_command.proofs.Behind.{answers-from-report}
use Rattle.acas_command.proofs.Reports.{answers-refer, told-all}
use Rattle.acas_table_file.specs.Calls.{with_table}
use Rattle.acas_cell_commands.specs.AuditCalls.{CallsForAudit, IsAuditBegun, IsAuditText, audit_looks_at}
use Rattle.acas_cell_commands.specs.Decisions.{CountsAudit}
use Rattle.acas_cell_commands.proofs.Decisions.{counts-looking}
use Rattle.acas_cell_commands.proofs.AuditFiles.{audit-refers}
use Rattle.acas_outside.specs.Files.{Files, Given}
use Rattle.acas_command.specs.Answers.{report_ended}
use Rattle.acas_command.specs.ModelFile.{IsModelFile}
use Rattle.acas_cell_commands.proofs.audit_command.audit.Goals as goal

pub returns-in_err-found-clause-answers : goal.returns-in_err-found-clause-answers
returns-in_err-found-clause-answers g c =
    let model = c.args.model.now in
    let table = c.args.table.now in
    let before : Outside = outside g.F.Folder g.O.Sink c.args.folder.now c.args.out.now in
    let after : Outside = outside g.F.Folder g.O.Sink c.read_model_file.new.folder c.args.out.now in
    let p = err_from_is_err_and c.from_residual.result c.from_residual.ensures.1 in
    rw (p.1, p.2)
    (answers-refer (audit_looks_at model table) (CallsForAudit model table c.args.which) c.in_err-found.field-0.0 before after c.in_err-found.ensures.refused
    (told-all before.holds _ (λ files. audit-refers model table c.args.which files (audit_looks_at model table) refl))
    (c.in_err-found.ensures.err (table ∷ []) (λ files digest m. with_table m digest (get files table) (λ bytes. prints [])) _ _))

pub returns-in_err-found-clause-work : goal.returns-in_err-found-clause-work
returns-in_err-found-clause-work g c =
    let p = err_from_is_err_and c.from_residual.result c.from_residual.ensures.1 in
    rw (p.1, p.2) (counts-looking c.args.model.now c.args.table.now (g.F.Folder.holds c.args.folder.now) c.in_err-found.field-0.0 c.args.count.now c.args.count.now refl c.in_err-found.ensures.refused)

pub returns-clause-answers : goal.returns-clause-answers
returns-clause-answers g c =
    let model = c.args.model.now in
    let table = c.args.table.now in
    let found = c.in_ok-found.found in
    let before : Outside = outside g.F.Folder g.O.Sink c.args.folder.now c.args.out.now in
    let mid : Outside = outside g.F.Folder g.O.Sink c.read_model_file.new.folder c.args.out.now in
    let after : Outside = outside g.F.Folder g.O.Sink c.rule_on_cells.new.folder c.rule_on_cells.new.out in
    let frame = c.read_model_file.ensures.frame in
    let given : Given mid.holds model (λ file. IsModelFile file found.digest found.model) =
    subst (λ (h : Option Files). Given h model (λ file. IsModelFile file found.digest found.model)) (sym frame.holds) c.in_ok-found.ensures.ok in
    answers-from-report (model ∷ []) (table ∷ []) (audit_looks_at model table) (IsAuditText model table c.args.which) (IsAuditBegun model table c.args.which) (report_ended c.rule_on_cells.result) before mid after
    (record { holds = frame.holds; written = refl; misses = frame.misses; taken = frame.taken; faults = frame.faults; output_faults = omega arith; once = c.read_model_file.ensures.once })
    (c.rule_on_cells.ensures.answers model given)

pub returns-clause-work : goal.returns-clause-work
returns-clause-work g c =
    let model = c.args.model.now in
    let found = c.in_ok-found.found in
    let held = sym c.read_model_file.ensures.frame.holds in
    let given = subst (λ (h : Option Files). Given h model (λ file. IsModelFile file found.digest found.model)) held c.in_ok-found.ensures.ok in
    subst (λ (h : Option Files). CountsAudit model c.args.table.now h (report_ended c.rule_on_cells.result) c.args.count.now c.rule_on_cells.new.count) (sym held) (c.rule_on_cells.ensures.work model c.in_ok-found.ensures.within given)

pub returns-clause-folder : goal.returns-clause-folder
returns-clause-folder g c = search rules

pub returns-in_err-found-clause-folder : goal.returns-in_err-found-clause-folder
returns-in_err-found-clause-folder g c = grind (arith, common_steps)
