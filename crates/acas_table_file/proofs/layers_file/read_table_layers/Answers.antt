use Rattle.std.proofs.Common.{arith}
use Rattle.std.proofs.lemmas.Grind.{common_steps}
use Rattle.acas_table_file.proofs.layers_file.read_table_layers.Goals as goal

pub returns-in-Ok : goal.returns-in-Ok
returns-in-Ok g c = grind (arith, common_steps)

pub returns-in-Err-Refused : goal.returns-in-Err-Refused
returns-in-Err-Refused g c = grind (arith, common_steps)

pub returns-in-Err-Absent : goal.returns-in-Err-Absent
returns-in-Err-Absent g c = grind (arith, common_steps)

pub returns-in-Err-Failed : goal.returns-in-Err-Failed
returns-in-Err-Failed g c = grind (arith, common_steps)

pub returns-in-Err-Memory : goal.returns-in-Err-Memory
returns-in-Err-Memory g c = grind (arith, common_steps)
