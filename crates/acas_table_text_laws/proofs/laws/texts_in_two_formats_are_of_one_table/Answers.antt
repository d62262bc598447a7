use Rattle.acas_table_text_laws.proofs.Twice.{made_layers, same_layers}
use Rattle.acas_table_text_laws.proofs.laws.texts_in_two_formats_are_of_one_table.Goals as goal

pub returns-clause-same : goal.returns-clause-same
returns-clause-same c = same_layers

pub returns-clause-made : goal.returns-clause-made
returns-clause-made c = made_layers
