use Rattle.acas_process.specs.Compiled.{compiled}
use Rattle.acas_table_text.specs.Layers.{table_text}
use Rattle.acas_accept.proofs.CompiledTables.{compiled_is_accepted}
use Rattle.acas_accept.proofs.Tables.{accepted_has_none}
use Rattle.acas_run_laws.proofs.accepted.compiled_tables_are_accepted.Goals as goal

pub returns-clause-table : goal.returns-clause-table
returns-clause-table c = compiled_is_accepted

pub returns-clause-no_refusal : goal.returns-clause-no_refusal
returns-clause-no_refusal c m f digest v long = accepted_has_none m digest (table_text f digest m.grid (compiled m)) (compiled m) v long (compiled_is_accepted m f digest v)
