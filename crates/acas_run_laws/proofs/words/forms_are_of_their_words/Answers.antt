use Rattle.acas_report_lines.specs.declared.counts.Which.TheVariants.{All as AllLines, Reported as ReportedLines}
use Rattle.acas_cli_words.specs.Words.{Audit, Check, Compile, Drill, Manoeuvre, Migrate, Regions, Replay, Risk, Safeable, Values}
use Rattle.acas_run_laws.proofs.WordForms.{form-words}
use Rattle.acas_run_laws.proofs.words.forms_are_of_their_words.Goals as goal

pub returns : goal.returns
returns c = record {
  values = λ words model is. (form-words words (Values model) is).0;
  compile = λ words model table is. (form-words words (Compile model table) is).0;
  check = λ words model table is. (form-words words (Check model table) is).0;
  risk = λ words model table is. (form-words words (Risk model table) is).0;
  audit = λ words model table is. (form-words words (Audit model table AllLines) is).0;
  reported = λ words model table is. (form-words words (Audit model table ReportedLines) is).0;
  regions = λ words model boxes is. (form-words words (Regions model boxes) is).0;
  manoeuvre = λ words model boxes accel rate is. (form-words words (Manoeuvre model boxes accel rate) is).0;
  safeable = λ words model table is. (form-words words (Safeable model table) is).0;
  replay = λ words model table encounter is. (form-words words (Replay model table encounter) is).0;
  migrate = λ words model table target is. (form-words words (Migrate model table target) is).0;
  drill = λ words number is. (form-words words (Drill number) is).0;
}
