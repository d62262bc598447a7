use Rattle.acas_run_laws.proofs.Causes.{agrees-form, may_print-code}
use Rattle.acas_run_laws.proofs.EndedRuns.{ended-as}
use Rattle.acas_run_laws.proofs.OneReport.{reports-one}
use Rattle.acas_run_laws.proofs.outcomes.done_runs_end_as_called_for.Goals as goal

pub returns : goal.returns
returns c = λ form cause files before after o has told a code ends.
    let e =
    ended-as reports-one c.drilled_models_are_within_limits.ensures.within form files cause before after o has (may_print-code cause code) (agrees-form form cause files before after told a) ends in
    (e.cause_is, e.printed, e.stored)
