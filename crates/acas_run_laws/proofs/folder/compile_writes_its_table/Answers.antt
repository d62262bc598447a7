use Rattle.acas_cli_words.specs.Words.{Compile}
use Rattle.acas_run_laws.proofs.Causes.{agrees-form}
use Rattle.acas_run_laws.proofs.StoredTables.{compiled-none, compiled-part, compiled-whole}
use Rattle.acas_run_laws.proofs.folder.compile_writes_its_table.Goals as goal

pub returns : goal.returns
returns c = record {
  whole = λ model table cause files before after told a. compiled-whole model table files cause before after (agrees-form (Compile model table) cause files before after told a);
  part = λ model table cause files before after told a. compiled-part model table files cause before after (agrees-form (Compile model table) cause files before after told a);
  none = λ model table cause files before after told a. compiled-none model table files cause before after (agrees-form (Compile model table) cause files before after told a);
}
