use Rattle.acas_run_laws.proofs.WordForms.{form-names, form-words}
use Rattle.acas_run_laws.proofs.words.forms_name_files.Goals as goal

pub returns : goal.returns
returns c = λ words form is. form-names words form (form-words words form is)
