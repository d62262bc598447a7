use Rattle.std.proofs.Common.{refl}
use Rattle.acas_command.specs.declared.status.Cause.TheVariants.{Table as Refused}
use Rattle.acas_cli_words.specs.Words.{Audit, Check, Migrate, Replay, Risk, Safeable}
use Rattle.acas_run_laws.proofs.NotRefused.{worth-form}
use Rattle.acas_run_laws.proofs.worth.refused_tables_are_not_sound.Goals as goal

pub returns : goal.returns
returns c = record {
  check = λ model table files refusal before after told h. (worth-form (Check model table) (Refused refusal) files before after told h).refused refusal refl;
  risk = λ model table files refusal before after told h. (worth-form (Risk model table) (Refused refusal) files before after told h).refused refusal refl;
  audit = λ model table which files refusal before after told h. (worth-form (Audit model table which) (Refused refusal) files before after told h).refused refusal refl;
  safeable = λ model table files refusal before after told h. (worth-form (Safeable model table) (Refused refusal) files before after told h).refused refusal refl;
  replay = λ model table encounter files refusal before after told h. (worth-form (Replay model table encounter) (Refused refusal) files before after told h).refused_table refusal refl;
  migrate = λ model table target files refusal before after told h. (worth-form (Migrate model table target) (Refused refusal) files before after told h).refused refusal refl;
}
