use Rattle.std.proofs.Common.{[], ◌∷◌, refl, sym, ◌∙◌, rules}
use Rattle.std.specs.FinMap.{get}
use Rattle.std.proofs.lemmas.Result.{err_from_is_err_and}
use Rattle.acas_outside.specs.Bytes.{Appends, AppendsPart}
use Rattle.acas_outside.specs.Counts.{Rose}
use Rattle.acas_outside.specs.Outside.{Outside, outside}
use Rattle.acas_table_file.specs.Calls.{with_table}
use Rattle.acas_command.specs.Called.{reading}
use Rattle.acas_command.specs.Outcome.{Outcome, prints}
use Rattle.acas_command.proofs.Behind.{answers-done, answers-output, told-both, told-kept}
use Rattle.acas_command.proofs.Files.{called-model, to-model}
use Rattle.acas_command.proofs.Reports.{answers-refer}
use Rattle.acas_table_file.proofs.Files.{called-table}
use Rattle.acas_check_commands.specs.AcceptedLine.{accepted_line}
use Rattle.acas_check_commands.specs.Calls.{CallsForCheck, check_of}
use Rattle.acas_check_commands.proofs.Worth.{line_of_check, rest_of_check}
use Rattle.acas_check_commands.proofs.check_command.print_accepted.Goals as goal

pub returns-in_err-read_table_file-clause-answers : goal.returns-in_err-read_table_file-clause-answers
returns-in_err-read_table_file-clause-answers g c model told =
    let m = c.args.found.now.model in
    let digest = c.args.found.now.digest in
    let table = c.args.table.now in
    let before : Outside = outside g.F.Folder g.O.Sink c.args.folder.now c.args.out.now in
    let after : Outside = outside g.F.Folder g.O.Sink c.read_table_file.new.folder c.args.out.now in
    let p = err_from_is_err_and c.from_residual.result c.from_residual.ensures.1 in
    rw (p.1, p.2)
    (answers-refer (λ files. with_table m digest (get files table) (line_of_check m)) (reading (table ∷ []) (CallsForCheck model table)) c.in_err-read_table_file.field-0.0 before after c.in_err-read_table_file.ensures.refused
    (to-model (table ∷ []) before.holds model digest m (λ files d n. rest_of_check (get files table) d n) told)
    (c.in_err-read_table_file.ensures.err [] (λ files. line_of_check m) _ _))

pub returns-in-Ok-clause-answers : goal.returns-in-Ok-clause-answers
returns-in-Ok-clause-answers g c model told =
    let m = c.args.found.now.model in
    let digest = c.args.found.now.digest in
    let table = c.args.table.now in
    let o : Outcome = prints (accepted_line m.grid) in
    let before : Outside = outside g.F.Folder g.O.Sink c.args.folder.now c.args.out.now in
    let after : Outside = outside g.F.Folder g.O.Sink c.read_table_file.new.folder c.emit.new.sink in
    let printed : Appends (g.O.Sink.written c.args.out.now) (g.O.Sink.written c.emit.new.sink) (accepted_line m.grid) = search rules in
    let advices = c.in_ok-read_table_file.field-0 in
    let accepted = c.in_ok-read_table_file.ensures.ok in
    answers-done (table ∷ []) (λ files. check_of (get files model) (get files table)) o before after
    (told-both before.holds _ _ _ (λ files a b. sym b ∙ a)
    (called-model before.holds model digest m (λ files d n. rest_of_check (get files table) d n) told)
    (called-table before.holds table digest m advices o accepted)) refl
    (told-kept before.holds after.holds c.read_table_file.ensures.frame.holds) printed c.read_table_file.ensures.once

pub returns-in-Err-clause-answers : goal.returns-in-Err-clause-answers
returns-in-Err-clause-answers g c model told =
    let m = c.args.found.now.model in
    let digest = c.args.found.now.digest in
    let table = c.args.table.now in
    let o : Outcome = prints (accepted_line m.grid) in
    let before : Outside = outside g.F.Folder g.O.Sink c.args.folder.now c.args.out.now in
    let after : Outside = outside g.F.Folder g.O.Sink c.read_table_file.new.folder c.emit.new.sink in
    let part : AppendsPart (g.O.Sink.written c.args.out.now) (g.O.Sink.written c.emit.new.sink) (accepted_line m.grid) = search rules in
    let rose : Rose before.output_faults after.output_faults = search rules in
    let advices = c.in_ok-read_table_file.field-0 in
    let accepted = c.in_ok-read_table_file.ensures.ok in
    answers-output (table ∷ []) (λ files. check_of (get files model) (get files table)) o before after
    (told-both before.holds _ _ _ (λ files a b. sym b ∙ a)
    (called-model before.holds model digest m (λ files d n. rest_of_check (get files table) d n) told)
    (called-table before.holds table digest m advices o accepted)) tt
    (told-kept before.holds after.holds c.read_table_file.ensures.frame.holds) part rose c.read_table_file.ensures.once
