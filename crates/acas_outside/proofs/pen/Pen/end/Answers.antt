use Rattle.std.proofs.Common.{arith}
use Rattle.std.proofs.lemmas.Grind.{common_steps}
use Rattle.acas_outside.proofs.Appended.{on_err_always}
use Rattle.acas_outside.proofs.PrintedPieces.{part_of_waiting}
use Rattle.acas_outside.proofs.pen.Pen.end.Goals as goal

pub returns-in_err-flush-clause-err : goal.returns-in_err-flush-clause-err
returns-in_err-flush-clause-err g c =
    rw (← c.bytes.ensures)
    (on_err_always _ (part_of_waiting _ _ _ _ _ c.bytes.result.now c.in_ok-print.ensures.ok c.in_err-flush.ensures.err))

pub returns-in_err-print : goal.returns-in_err-print
returns-in_err-print g c = grind (arith, common_steps)

pub returns : goal.returns
returns g c = grind (arith, common_steps)
