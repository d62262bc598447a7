use Rattle.acas_run_laws.proofs.Causes.{agrees-form}
use Rattle.acas_run_laws.proofs.Kept.{kept-form}
use Rattle.acas_run_laws.proofs.folder.only_compile_and_migrate_write.Goals as goal

pub returns : goal.returns
returns c = λ form cause files before after told a none. kept-form form cause files before after none (agrees-form form cause files before after told a)
