use Rattle.acas_run_laws.proofs.TableLengths.{length-text}
use Rattle.acas_run_laws.proofs.numbers.texts_have_the_length_of_their_shape.Goals as goal

pub returns : goal.returns
returns c = length-text
