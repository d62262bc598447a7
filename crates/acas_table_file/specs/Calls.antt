-- What is looked at in a table's file before a command goes on.
use Rattle.std.specs.Prelude.{ℕ, List, Option, Some, None}
use Rattle.acas_spec.specs.Model.{ModelData}
use Rattle.acas_table_text.specs.declared.refusal.TableRefusal.{TableRefusal}
use Rattle.acas_accept.specs.Refusals.{first_refusal}
use Rattle.acas_command.specs.Outcome.{Outcome, refuses}
use Rattle.acas_command.specs.declared.status.FileRole.TheVariants.{Table as TableFile}
use Rattle.acas_command.specs.declared.status.Cause.TheVariants.{Absent, Table}

-- a table is not refused
abbrev pub with_acceptance : Option TableRefusal → Outcome → Outcome
with_acceptance None rest = rest
with_acceptance (Some refusal) rest = refuses (Table refusal)

-- the file is an accepted table of the model whose text has this digest; the rest goes on with its bytes
abbrev pub with_table : ModelData → List ℕ → Option (List ℕ) → (List ℕ → Outcome) → Outcome
with_table model digest None rest = refuses (Absent TableFile)
with_table model digest (Some bytes) rest = with_acceptance (first_refusal model digest bytes) (rest bytes)
