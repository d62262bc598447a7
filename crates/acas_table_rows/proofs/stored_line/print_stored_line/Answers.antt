use Rattle.std.proofs.Common.{arith}
use Rattle.std.proofs.lemmas.Grind.{common_steps}
use Rattle.acas_table_rows.proofs.stored_line.print_stored_line.Goals as goal

pub put_count-requires-2 : goal.put_count-requires-2
put_count-requires-2 g c = grind (arith, common_steps)

pub put_count-requires-3 : goal.put_count-requires-3
put_count-requires-3 g c = grind (arith, common_steps)
