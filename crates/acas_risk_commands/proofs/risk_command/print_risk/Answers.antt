use Rattle.std.proofs.lemmas.Grind.{common_steps}
use Rattle.std.proofs.Common.{[], ◌∷◌, refl, rules, arith}
use Rattle.std.specs.FinMap.{get}
use Rattle.std.proofs.lemmas.Result.{err_from_is_err_and}
use Rattle.acas_outside.specs.Bytes.{Appends, AppendsPart}
use Rattle.acas_outside.specs.Counts.{Rose}
use Rattle.acas_outside.specs.Outside.{Outside, outside}
use Rattle.acas_command.specs.Called.{reading}
use Rattle.acas_command.specs.Outcome.{Outcome, prints}
use Rattle.acas_command.proofs.Behind.{answers-done, answers-output, told-kept}
use Rattle.acas_command.proofs.Files.{to-model}
use Rattle.acas_command.proofs.Reports.{answers-refer}
use Rattle.acas_table_file.specs.Calls.{with_table}
use Rattle.acas_risk.specs.Plans.{advised}
use Rattle.acas_risk.specs.RiskText.{risk_text}
use Rattle.acas_risk_commands.specs.Calls.{CallsForRisk, risk_of}
use Rattle.acas_risk_commands.proofs.Files.{called-risk, rest_of_risk, text_of_risk}
use Rattle.acas_risk_commands.proofs.risk_command.print_risk.Goals as goal

pub returns-in_err-advices-clause-answers : goal.returns-in_err-advices-clause-answers
returns-in_err-advices-clause-answers g c model told =
    let m = c.args.found.now.model in
    let digest = c.args.found.now.digest in
    let table = c.args.table.now in
    let before : Outside = outside g.F.Folder g.O.Sink c.args.folder.now c.args.out.now in
    let after : Outside = outside g.F.Folder g.O.Sink c.read_table_file.new.folder c.args.out.now in
    let p = err_from_is_err_and c.from_residual.result c.from_residual.ensures.1 in
    rw (p.1, p.2)
    (answers-refer (λ files. with_table m digest (get files table) (text_of_risk m)) (reading (table ∷ []) (CallsForRisk model table)) c.in_err-advices.field-0.0 before after c.in_err-advices.ensures.refused
    (to-model (table ∷ []) before.holds model digest m (λ files d n. rest_of_risk (get files table) d n) told)
    (c.in_err-advices.ensures.err [] (λ files. text_of_risk m) _ _))

pub returns-in-Ok-clause-answers : goal.returns-in-Ok-clause-answers
returns-in-Ok-clause-answers g c model told =
    let m = c.args.found.now.model in
    let digest = c.args.found.now.digest in
    let table = c.args.table.now in
    let advices = c.in_ok-advices.advices in
    let o : Outcome = prints (risk_text m (advised m advices)) in
    let before : Outside = outside g.F.Folder g.O.Sink c.args.folder.now c.args.out.now in
    let after : Outside = outside g.F.Folder g.O.Sink c.read_table_file.new.folder c.write_risk.new.sink in
    let printed : Appends (g.O.Sink.written c.args.out.now) (g.O.Sink.written c.write_risk.new.sink) o.output = search rules in
    let accepted = c.in_ok-advices.ensures.ok in
    answers-done (table ∷ []) (λ files. risk_of (get files model) (get files table)) o before after
    (called-risk before.holds model table digest m advices told accepted) refl
    (told-kept before.holds after.holds c.read_table_file.ensures.frame.holds) printed c.read_table_file.ensures.once

pub returns-in-Err-Sink-clause-answers : goal.returns-in-Err-Sink-clause-answers
returns-in-Err-Sink-clause-answers g c model told =
    let m = c.args.found.now.model in
    let digest = c.args.found.now.digest in
    let table = c.args.table.now in
    let advices = c.in_ok-advices.advices in
    let o : Outcome = prints (risk_text m (advised m advices)) in
    let before : Outside = outside g.F.Folder g.O.Sink c.args.folder.now c.args.out.now in
    let after : Outside = outside g.F.Folder g.O.Sink c.read_table_file.new.folder c.write_risk.new.sink in
    let part : AppendsPart (g.O.Sink.written c.args.out.now) (g.O.Sink.written c.write_risk.new.sink) o.output = search rules in
    let rose : Rose before.output_faults after.output_faults = search rules in
    let accepted = c.in_ok-advices.ensures.ok in
    answers-output (table ∷ []) (λ files. risk_of (get files model) (get files table)) o before after
    (called-risk before.holds model table digest m advices told accepted) tt
    (told-kept before.holds after.holds c.read_table_file.ensures.frame.holds) part rose c.read_table_file.ensures.once

pub returns : goal.returns
returns g c = grind (arith, common_steps)
