use Rattle.std.proofs.Common.{ap}
use Rattle.acas_command.specs.Codes.{code_of}
use Rattle.acas_run_laws.proofs.worth.other_words_end_with_2.Goals as goal

pub returns : goal.returns
returns c = λ cause before after h. ap code_of h
