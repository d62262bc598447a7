use Rattle.acas_run_laws.proofs.PartsOfFiles.{grown-shorter, stored-shorter}
use Rattle.acas_run_laws.proofs.outside.parts_are_fewer_bytes.Goals as goal

pub returns-clause-stored : goal.returns-clause-stored
returns-clause-stored c = stored-shorter

pub returns-clause-grown : goal.returns-clause-grown
returns-clause-grown c = grown-shorter
