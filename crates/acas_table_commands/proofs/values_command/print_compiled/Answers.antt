use Rattle.std.proofs.Common.{[], refl, arith}
use Rattle.std.proofs.lemmas.Grind.{common_steps}
use Rattle.std.specs.FinMap.{get}
use Rattle.acas_outside.specs.Outside.{Outside}
use Rattle.acas_outside.proofs.Once.{takes_none}
use Rattle.acas_command.specs.Outcome.{prints}
use Rattle.acas_command.proofs.Behind.{answers-done, answers-output, told-kept}
use Rattle.acas_command.proofs.Files.{called-model}
use Rattle.acas_table_commands.specs.Calls.{values_of}
use Rattle.acas_table_rows.specs.ValuesText.{values_text}
use Rattle.acas_table_commands.proofs.Swept.{answered}
use Rattle.acas_table_commands.proofs.Worth.{rest_of_values}
use Rattle.acas_table_commands.proofs.values_command.print_compiled.Goals as goal

pub returns-in-Ok-clause-answers : goal.returns-in-Ok-clause-answers
returns-in-Ok-clause-answers g c model folder told =
    let m = c.args.found.now.model in
    let before : Outside = record folder { written = g.O.Sink.written c.args.out.now; output_faults = g.O.Sink.faults c.args.out.now } in
    let after : Outside = record folder { written = g.O.Sink.written c.print_table.new.out; output_faults = g.O.Sink.faults c.print_table.new.out } in
    answers-done [] (λ files. values_of (get files model)) (prints (values_text m)) before after
    (called-model folder.holds model c.args.found.now.digest m (λ files digest n. rest_of_values digest n) told) refl
    (told-kept folder.holds folder.holds refl) c.in-Ok.ensures.ok (takes_none [] folder.holds folder.taken folder.taken refl)

pub returns-clause-answers : goal.returns-clause-answers
returns-clause-answers g c model folder told =
    let m = c.args.found.now.model in
    let before : Outside = record folder { written = g.O.Sink.written c.args.out.now; output_faults = g.O.Sink.faults c.args.out.now } in
    let after : Outside = record folder { written = g.O.Sink.written c.print_table.new.out; output_faults = g.O.Sink.faults c.print_table.new.out } in
    answers-output [] (λ files. values_of (get files model)) (prints (values_text m)) before after
    (called-model folder.holds model c.args.found.now.digest m (λ files digest n. rest_of_values digest n) told) tt
    (told-kept folder.holds folder.holds refl) c.in-Err.ensures.err (c.in-Err.ensures.frame.fault refl) (takes_none [] folder.holds folder.taken folder.taken refl)

pub returns-in_err-pen-clause-answers : goal.returns-in_err-pen-clause-answers
returns-in_err-pen-clause-answers g c model folder told =
    rw (answered c.from_residual.result c.from_residual.ensures.1)
    (record { has_cause = tt; quiet = refl {a = g.O.Sink.written c.args.out.now}; told = told-kept folder.holds folder.holds refl; once = takes_none [] folder.holds folder.taken folder.taken refl })

pub returns-in_err-sweep-clause-answers : goal.returns-in_err-sweep-clause-answers
returns-in_err-sweep-clause-answers g c model folder told =
    rw (answered c.from_residual-in_err-sweep.result c.from_residual-in_err-sweep.ensures.1)
    (record { has_cause = tt; quiet = refl {a = g.O.Sink.written c.args.out.now}; told = told-kept folder.holds folder.holds refl; once = takes_none [] folder.holds folder.taken folder.taken refl })

pub returns-in_err-sweep-clause-counted : goal.returns-in_err-sweep-clause-counted
returns-in_err-sweep-clause-counted g c = grind (arith, common_steps)
