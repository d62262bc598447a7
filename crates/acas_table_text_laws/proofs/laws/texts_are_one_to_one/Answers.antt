use Rattle.acas_table_text_laws.proofs.TextLaws.{same_format, same_text}
use Rattle.acas_table_text_laws.proofs.laws.texts_are_one_to_one.Goals as goal

pub returns-clause-format : goal.returns-clause-format
returns-clause-format c = same_format

pub returns-clause-table : goal.returns-clause-table
returns-clause-table c = same_text
