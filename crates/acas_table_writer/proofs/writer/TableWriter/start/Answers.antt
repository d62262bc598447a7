use Rattle.std.proofs.Common.{arith}
use Rattle.std.proofs.lemmas.Grind.{common_steps}
use Rattle.acas_table_writer.proofs.writer.TableWriter.start.Goals as goal

pub returns-in_err-store_file : goal.returns-in_err-store_file
returns-in_err-store_file g c = grind (arith, common_steps)

pub returns : goal.returns
returns g c = grind (arith, common_steps)
