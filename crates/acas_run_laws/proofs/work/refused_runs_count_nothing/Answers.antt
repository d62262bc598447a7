use Rattle.acas_run_laws.proofs.Counted.{looking-code, unswept-code}
use Rattle.acas_run_laws.proofs.work.refused_runs_count_nothing.Goals as goal

pub returns : goal.returns
returns c = record {
  values = λ model holds cause old new counts done reported words output.
      let looks = looking-code cause done reported words output in (counts.sweep.no_backups looks, counts.sweep.no_turns looks, counts.decisions);
  compile = λ model table holds cause old new counts folder done reported words output.
      let unswept = unswept-code cause folder (looking-code cause done reported words output) in
      (counts.sweep.no_backups unswept, counts.sweep.no_turns unswept, counts.decisions);
  audit = λ model table which holds cause old new counts done reported words output.
      (counts.backups, counts.turned, counts.audit.unmoved (looking-code cause done reported words output));
}
