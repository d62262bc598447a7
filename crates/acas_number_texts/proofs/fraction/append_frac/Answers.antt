use Rattle.std.proofs.Common.{arith}
use Rattle.std.proofs.lemmas.Grind.{common_steps}
use Rattle.acas_number_texts.proofs.fraction.append_frac.Goals as goal

pub returns-in_err-append_number : goal.returns-in_err-append_number
returns-in_err-append_number c = grind (arith, common_steps)

pub returns-in_err-push : goal.returns-in_err-push
returns-in_err-push c = grind (arith, common_steps)

pub returns-in_err-append_number-2 : goal.returns-in_err-append_number-2
returns-in_err-append_number-2 c = grind (arith, common_steps)

pub returns-in_ok-append_number-2 : goal.returns-in_ok-append_number-2
returns-in_ok-append_number-2 c = grind (arith, common_steps)
