-- The numbers of a form that words have are such as are asked of it.
use Rattle.std.proofs.Common.{ℕ, List, pos, arith}
use Rattle.std.proofs.lemmas.Int.{ints}
use Rattle.acas_rulings.specs.ManoeuvreLimits.{IsManoeuvre}
use Rattle.acas_cli_words.specs.Forms.{HasNumber}
use Rattle.acas_cli_words.specs.Words.{Form, Values, Compile, Check, Risk, Audit, Regions, Manoeuvre, Safeable, Replay, Migrate, Drill}
use Rattle.acas_run_laws.specs.Forms.{HasIntruder}
use Rattle.acas_run_laws.proofs.WordForms.{AreWithin, IsFormOf}

is_manoeuvre : (accel rate : ℕ) → AreWithin accel rate → IsManoeuvre (pos accel) (pos rate)
is_manoeuvre accel rate w = record {
  least_accel = omega (arith, ints, w.least_accel);
  greatest_accel = omega (arith, ints, w.greatest_accel);
  least_rate = omega (arith, ints, w.least_rate);
  greatest_rate = omega (arith, ints, w.greatest_rate);
}

pub form-number : (words : List (List ℕ)) (form : Form) → IsFormOf words form → HasNumber form
form-number words (Values model) f = tt
form-number words (Compile model table) f = tt
form-number words (Check model table) f = tt
form-number words (Risk model table) f = tt
form-number words (Audit model table which) f = tt
form-number words (Regions model boxes) f = tt
form-number words (Manoeuvre model boxes accel rate) f = is_manoeuvre accel rate f.2
form-number words (Safeable model table) f = tt
form-number words (Replay model table encounter) f = tt
form-number words (Migrate model table target) f = tt
form-number words (Drill number) f = f.1

pub form-intruder : (words : List (List ℕ)) (form : Form) → IsFormOf words form → HasIntruder form
form-intruder words (Values model) f = tt
form-intruder words (Compile model table) f = tt
form-intruder words (Check model table) f = tt
form-intruder words (Risk model table) f = tt
form-intruder words (Audit model table which) f = tt
form-intruder words (Regions model boxes) f = tt
form-intruder words (Manoeuvre model boxes accel rate) f = is_manoeuvre accel rate f.2
form-intruder words (Safeable model table) f = tt
form-intruder words (Replay model table encounter) f = tt
form-intruder words (Migrate model table target) f = tt
form-intruder words (Drill number) f = tt
