use Rattle.std.proofs.Common.{arith}
use Rattle.std.proofs.lemmas.Grind.{common_steps}
use Rattle.acas_outside.proofs.print_buffer.PrintBuffer.print.Goals as goal

pub returns-in_err-make_room : goal.returns-in_err-make_room
returns-in_err-make_room g c = grind (arith, common_steps)

pub returns : goal.returns
returns g c = grind (arith, common_steps)
