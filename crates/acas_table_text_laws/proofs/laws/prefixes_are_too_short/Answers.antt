use Rattle.acas_table_text_laws.proofs.Cuts.{prefix_short}
use Rattle.acas_table_text_laws.proofs.laws.prefixes_are_too_short.Goals as goal

pub returns : goal.returns
returns c = prefix_short
