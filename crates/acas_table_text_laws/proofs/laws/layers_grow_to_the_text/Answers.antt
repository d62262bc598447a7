use Rattle.acas_table_text.specs.Text.{header}
use Rattle.acas_table_text_laws.proofs.Stored.{front-none, stored_layer, stored_end, part_of_header, part_of_layer, part_of_end}
use Rattle.acas_table_text_laws.proofs.Chains.{text-chain}
use Rattle.acas_table_text_laws.proofs.laws.layers_grow_to_the_text.Goals as goal

pub returns-clause-header : goal.returns-clause-header
returns-clause-header c = front-none

pub returns-clause-text : goal.returns-clause-text
returns-clause-text c f digest s layers = text-chain f (header f digest s) layers

pub returns-clause-layer : goal.returns-clause-layer
returns-clause-layer c = stored_layer

pub returns-clause-end : goal.returns-clause-end
returns-clause-end c = stored_end

pub returns-clause-part_of_header : goal.returns-clause-part_of_header
returns-clause-part_of_header c = part_of_header

pub returns-clause-part_of_layer : goal.returns-clause-part_of_layer
returns-clause-part_of_layer c = part_of_layer

pub returns-clause-part_of_end : goal.returns-clause-part_of_end
returns-clause-part_of_end c = part_of_end
