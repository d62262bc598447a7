use Rattle.acas_table_text.proofs.Backward.{good_is_text}
use Rattle.acas_table_text_laws.proofs.laws.only_texts_have_no_fault.Goals as goal

pub returns : goal.returns
returns c = good_is_text
