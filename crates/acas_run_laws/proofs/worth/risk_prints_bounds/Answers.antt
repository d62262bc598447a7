use Rattle.acas_command.specs.declared.status.Cause.TheVariants.{Done}
use Rattle.acas_cli_words.specs.Words.{Risk}
use Rattle.acas_run_laws.proofs.NotRefused.{worth-form}
use Rattle.acas_run_laws.proofs.worth.risk_prints_bounds.Goals as goal

pub returns : goal.returns
returns c = λ model table files before after told h.
    let t = (worth-form (Risk model table) Done files before after told h).printed tt in
    (t.m, t.t, t.rows, t.says, t.bounds, t.risks, t.printed, t.kept)
