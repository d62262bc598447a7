use Rattle.acas_cli_words.specs.Words.{Drill, Manoeuvre}
use Rattle.acas_run_laws.proofs.WordForms.{form-words}
use Rattle.acas_run_laws.proofs.FormNumbers.{form-intruder, form-number}
use Rattle.acas_run_laws.proofs.words.forms_have_their_numbers.Goals as goal

pub returns : goal.returns
returns c = record {
  number = λ words form is. form-number words form (form-words words form is);
  intruder = λ words form is. form-intruder words form (form-words words form is);
  manoeuvre = λ words model boxes accel rate is.
      let w = (form-words words (Manoeuvre model boxes accel rate) is).2 in
      (w.least_accel, w.greatest_accel, w.least_rate, w.greatest_rate);
  drill = λ words number is. (form-words words (Drill number) is).1;
}
