use Rattle.acas_run_laws.proofs.Causes.{agrees-form}
use Rattle.acas_run_laws.proofs.StoredTables.{other-form}
use Rattle.acas_run_laws.proofs.folder.other_files_stay.Goals as goal

pub returns : goal.returns
returns c = λ form cause files before after name told a apart. other-form form cause files before after name (agrees-form form cause files before after told a) apart
