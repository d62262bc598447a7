use Rattle.std.proofs.Common.{arith}
use Rattle.std.proofs.lemmas.Grind.{common_steps}
use Rattle.acas_table_rows.proofs.table_lines.print_state.Goals as goal

pub returns-in_err-print : goal.returns-in_err-print
returns-in_err-print g c = grind (arith, common_steps)

pub returns : goal.returns
returns g c = grind (arith, common_steps)
