use Rattle.acas_command.specs.declared.status.Cause.TheVariants.{Done}
use Rattle.acas_cli_words.specs.Words.{Values}
use Rattle.acas_run_laws.proofs.NotRefused.{worth-form}
use Rattle.acas_run_laws.proofs.worth.values_prints_a_tight_table.Goals as goal

pub returns : goal.returns
returns c = λ model files before after told h.
    let t = (worth-form (Values model) Done files before after told h).printed tt in
    (t.bytes, t.m, t.t, t.made.says, t.made.bounds, t.made.tight, t.printed, t.kept)
