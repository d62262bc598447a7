use Rattle.std.proofs.Common.{arith}
use Rattle.std.specs.FinMap.{get}
use Rattle.acas_cli_words.specs.Words.{Audit, Check, Compile, Drill, Manoeuvre, Migrate, Regions, Replay, Risk, Safeable, Values}
use Rattle.acas_run_laws.proofs.TakenOnce.{length-file, taken-form}
use Rattle.acas_run_laws.proofs.once.files_are_read_once.Goals as goal

pub returns : goal.returns
returns c = record {
  values = λ model cause files before after told a.
      omega (arith, taken-form (Values model) cause files before after told a, length-file (get files model));
  compile = λ model table cause files before after told a.
      omega (arith, taken-form (Compile model table) cause files before after told a, length-file (get files model));
  check = λ model table cause files before after told a.
      omega (arith, taken-form (Check model table) cause files before after told a, length-file (get files model), length-file (get files table));
  risk = λ model table cause files before after told a.
      omega (arith, taken-form (Risk model table) cause files before after told a, length-file (get files model), length-file (get files table));
  audit = λ model table which cause files before after told a.
      omega (arith, taken-form (Audit model table which) cause files before after told a, length-file (get files model), length-file (get files table));
  safeable = λ model table cause files before after told a.
      omega (arith, taken-form (Safeable model table) cause files before after told a, length-file (get files model), length-file (get files table));
  migrate = λ model table target cause files before after told a.
      omega (arith, taken-form (Migrate model table target) cause files before after told a, length-file (get files model), length-file (get files table));
  regions = λ model boxes cause files before after told a.
      omega (arith, taken-form (Regions model boxes) cause files before after told a, length-file (get files model), length-file (get files boxes));
  manoeuvre = λ model boxes accel rate cause files before after told a.
      omega (arith, taken-form (Manoeuvre model boxes accel rate) cause files before after told a, length-file (get files model), length-file (get files boxes));
  replay = λ model table encounter cause files before after told a.
      omega (arith, taken-form (Replay model table encounter) cause files before after told a, length-file (get files model), length-file (get files table), length-file (get files encounter));
  drill = λ number cause files before after told a. omega (arith, taken-form (Drill number) cause files before after told a);
}
