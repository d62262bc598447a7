use Rattle.acas_outside.specs.Outside.{Outside}
use Rattle.acas_command.specs.Answers.{report_ended}
use Rattle.acas_drill.specs.Calls.{output_beside}
use Rattle.acas_drill.proofs.Worth.{drill-worth}
use Rattle.acas_cli.proofs.drill_call.drill.Goals as goal

pub returns-clause-answers : goal.returns-clause-answers
returns-clause-answers g c folder = rw c.cause_of_report-cause.ensures (c.drill.ensures.answers folder)

pub returns-clause-headline : goal.returns-clause-headline
returns-clause-headline g c folder =
    let before : Outside = output_beside g.O.Sink folder c.args.out.now in
    let after : Outside = output_beside g.O.Sink folder c.drill.new.out in
    rw c.cause_of_report-cause.ensures
    (drill-worth c.args.number (report_ended c.drill.result) before after c.drill.ensures.ends (c.drill.ensures.answers folder))
