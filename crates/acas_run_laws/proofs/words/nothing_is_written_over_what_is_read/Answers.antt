use Rattle.acas_cli_words.specs.Words.{Compile, Migrate}
use Rattle.acas_run_laws.proofs.WordForms.{are_two, form-words}
use Rattle.acas_run_laws.proofs.words.nothing_is_written_over_what_is_read.Goals as goal

pub returns : goal.returns
returns c = record {
  compile = λ words model table is. are_two model table (form-words words (Compile model table) is).1;
  migrate = λ words model table target is.
      let f = form-words words (Migrate model table target) is in
      (are_two model target f.1, are_two table target f.2);
}
