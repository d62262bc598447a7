use Rattle.std.proofs.Common.{Option, refl, subst, sym, arith, [], ◌∷◌, rules}
use Rattle.std.specs.FinMap.{get}
use Rattle.std.proofs.lemmas.Result.{err_from_is_err_and}
use Rattle.acas_outside.specs.Outside.{Outside, outside}
use Rattle.acas_command.specs.Outcome.{prints}
use Rattle.acas_command.proofs.Behind.{answers-from-report}
use Rattle.acas_command.proofs.Reports.{answers-refer, told-all}
use Rattle.acas_table_file.specs.Calls.{with_table}
use Rattle.acas_cell_commands.specs.SafeableCalls.{CallsForSafeable, IsSafeableText, IsSafeableTextBegun, safeable_looks_at}
use Rattle.acas_cell_commands.proofs.SafeableFiles.{safeable-refers}
use Rattle.acas_outside.specs.Files.{Files, Given}
use Rattle.acas_command.specs.Answers.{report_ended}
use Rattle.acas_command.specs.ModelFile.{IsModelFile}
use Rattle.acas_cell_commands.proofs.safeable_command.safeable.Goals as goal

pub returns-in_err-found-clause-answers : goal.returns-in_err-found-clause-answers
returns-in_err-found-clause-answers g c =
    let model = c.args.model.now in
    let table = c.args.table.now in
    let before : Outside = outside g.F.Folder g.O.Sink c.args.folder.now c.args.out.now in
    let after : Outside = outside g.F.Folder g.O.Sink c.read_model_file.new.folder c.args.out.now in
    let p = err_from_is_err_and c.from_residual.result c.from_residual.ensures.1 in
    rw (p.1, p.2)
    (answers-refer (safeable_looks_at model table) (CallsForSafeable model table) c.in_err-found.field-0.0 before after c.in_err-found.ensures.refused
    (told-all before.holds _ (λ files. safeable-refers model table files (safeable_looks_at model table) refl))
    (c.in_err-found.ensures.err (table ∷ []) (λ files digest m. with_table m digest (get files table) (λ bytes. prints [])) _ _))

pub returns-clause-answers : goal.returns-clause-answers
returns-clause-answers g c =
    let model = c.args.model.now in
    let table = c.args.table.now in
    let found = c.in_ok-found.found in
    let before : Outside = outside g.F.Folder g.O.Sink c.args.folder.now c.args.out.now in
    let mid : Outside = outside g.F.Folder g.O.Sink c.read_model_file.new.folder c.args.out.now in
    let after : Outside = outside g.F.Folder g.O.Sink c.print_safeable.new.folder c.print_safeable.new.out in
    let frame = c.read_model_file.ensures.frame in
    let given : Given mid.holds model (λ file. IsModelFile file found.digest found.model) =
    subst (λ (h : Option Files). Given h model (λ file. IsModelFile file found.digest found.model)) (sym frame.holds) c.in_ok-found.ensures.ok in
    answers-from-report (model ∷ []) (table ∷ []) (safeable_looks_at model table) (IsSafeableText model table) (IsSafeableTextBegun model table) (report_ended c.print_safeable.result) before mid after
    (record { holds = frame.holds; written = refl; misses = frame.misses; taken = frame.taken; faults = frame.faults; output_faults = omega arith; once = c.read_model_file.ensures.once })
    (c.print_safeable.ensures.answers model given)

pub returns-clause-folder : goal.returns-clause-folder
returns-clause-folder g c = search rules
