use Rattle.acas_command.specs.declared.status.Cause.TheVariants.{Output}
use Rattle.acas_run_laws.proofs.Causes.{agrees-form}
use Rattle.acas_run_laws.proofs.EndedRuns.{cut-short}
use Rattle.acas_run_laws.proofs.OneReport.{reports-one}
use Rattle.acas_run_laws.proofs.outcomes.failed_outputs_hold_a_part.Goals as goal

pub returns : goal.returns
returns c = λ form files before after o has told a ends.
    let p = cut-short reports-one c.drilled_models_are_within_limits.ensures.within form files before after o has (agrees-form form Output files before after told a) ends in
    (p.count, p.proper, p.appended)
