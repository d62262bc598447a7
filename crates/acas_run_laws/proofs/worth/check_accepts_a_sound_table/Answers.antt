use Rattle.acas_command.specs.declared.status.Cause.TheVariants.{Done}
use Rattle.acas_cli_words.specs.Words.{Check}
use Rattle.acas_run_laws.proofs.NotRefused.{worth-form}
use Rattle.acas_run_laws.proofs.worth.check_accepts_a_sound_table.Goals as goal

pub returns : goal.returns
returns c = λ model table files before after told h.
    let t = (worth-form (Check model table) Done files before after told h).accepted tt in
    (t.m, t.t, t.says, t.bounds, t.printed, t.kept)
