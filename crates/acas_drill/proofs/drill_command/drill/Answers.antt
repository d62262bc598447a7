use Rattle.std.proofs.Common.{[], refl, inr, rules}
use Rattle.acas_outside.specs.Bytes.{Appends}
use Rattle.acas_outside.specs.Outside.{Outside}
use Rattle.acas_outside.proofs.Once.{takes_none}
use Rattle.acas_command.specs.Outcome.{report_cause, reports}
use Rattle.acas_command.proofs.Behind.{answers-printed, told-kept}
use Rattle.acas_command.proofs.Reports.{may_print-report_cause, told-all}
use Rattle.acas_drill.specs.Calls.{CallsForDrill, output_beside}
use Rattle.acas_drill.proofs.drill_command.drill.Goals as goal

pub returns-in-Ok-clause-answers : goal.returns-in-Ok-clause-answers
returns-in-Ok-clause-answers g c folder =
    let reported = c.in_ok-reported.reported in
    let text = c.make_lines.new.line in
    let before : Outside = output_beside g.O.Sink folder c.args.out.now in
    let after : Outside = output_beside g.O.Sink folder c.emit.new.sink in
    let printed : Appends before.written after.written text = search rules in
    answers-printed (CallsForDrill c.args.number) (report_cause reported) (reports reported text) before after (may_print-report_cause reported)
    (told-all before.holds _ (λ files. inr (record { reported = reported; text = text; report = c.in_ok-reported.ensures; is = refl })))
    refl (told-kept before.holds after.holds refl) printed (takes_none [] before.holds before.taken after.taken refl)
