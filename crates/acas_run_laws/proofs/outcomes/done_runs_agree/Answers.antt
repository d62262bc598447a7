use Rattle.std.proofs.Common.{ap, sym, ◌∙◌}
use Rattle.std.specs.Io.KnownBytes.{append_known}
use Rattle.acas_command.proofs.Completed.{completed}
use Rattle.acas_cli.specs.Calls.{CallsFor}
use Rattle.acas_run_laws.proofs.Causes.{agrees-form, may_print-code}
use Rattle.acas_run_laws.proofs.EndedRuns.{ended-as}
use Rattle.acas_run_laws.proofs.OneReport.{reports-one}
use Rattle.acas_run_laws.proofs.outcomes.done_runs_agree.Goals as goal

pub returns : goal.returns
returns c = λ form cause other files before after again end has told too same a b code also.
    let drilled = c.drilled_models_are_within_limits.ensures.within in
    let agrees = agrees-form form cause files before after told a in
    let first = completed (CallsFor form) files cause before after (may_print-code cause code) agrees in
    let e = ended-as reports-one drilled form files cause before after first.outcome has (may_print-code cause code) agrees first.may in
    let f = ended-as reports-one drilled form files other again end first.outcome has (may_print-code other also) (agrees-form form other files again end too b) first.may in
    (e.cause_is ∙ sym f.cause_is, e.printed ∙ ap (λ w. append_known w first.outcome.output) (sym same) ∙ sym f.printed, e.stored ∙ sym f.stored)
