use Rattle.std.proofs.Common.{ap}
use Rattle.acas_command.specs.Codes.{code_of}
use Rattle.acas_run_laws.proofs.quiet.refused_words_change_nothing.Goals as goal

pub returns : goal.returns
returns c = record {
  code = λ cause before after a. ap code_of a.0;
  outside = λ cause before after a. a.1;
}
