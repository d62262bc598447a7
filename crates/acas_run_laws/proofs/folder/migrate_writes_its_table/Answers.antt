use Rattle.acas_cli_words.specs.Words.{Migrate}
use Rattle.acas_run_laws.proofs.Causes.{agrees-form}
use Rattle.acas_run_laws.proofs.StoredTables.{migrated-none, migrated-part, migrated-whole}
use Rattle.acas_run_laws.proofs.folder.migrate_writes_its_table.Goals as goal

pub returns : goal.returns
returns c = record {
  whole = λ model table target cause files before after told a. migrated-whole model table target files cause before after (agrees-form (Migrate model table target) cause files before after told a);
  part = λ model table target cause files before after told a. migrated-part model table target files cause before after (agrees-form (Migrate model table target) cause files before after told a);
  none = λ model table target cause files before after told a. migrated-none model table target files cause before after (agrees-form (Migrate model table target) cause files before after told a);
}
