use Rattle.acas_table_text_laws.proofs.TextFormats.{format-text}
use Rattle.acas_table_text_laws.proofs.TextLaws.{text_is_good, entry_read}
use Rattle.acas_table_text_laws.proofs.laws.texts_are_read_again.Goals as goal

pub returns-clause-format : goal.returns-clause-format
returns-clause-format c = format-text

pub returns-clause-no_fault : goal.returns-clause-no_fault
returns-clause-no_fault c = text_is_good

pub returns-clause-entries : goal.returns-clause-entries
returns-clause-entries c = entry_read
