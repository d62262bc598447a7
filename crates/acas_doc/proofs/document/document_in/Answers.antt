use Rattle.std.proofs.Common.{sym, ◌∙◌}
use Rattle.acas_doc.proofs.Documents.{document_no_text, document_of_text}
use Rattle.acas_doc.proofs.document.document_in.Goals as goal

pub returns-in-Err : goal.returns-in-Err
returns-in-Err c = sym (document_no_text c.args.bytes.now c.in-Err.ensures.cases.0)

pub returns-in-Ok-table_from_str : goal.returns-in-Ok-table_from_str
returns-in-Ok-table_from_str c = sym (document_of_text c.args.bytes.now c.in-Ok.ensures.cases.1 ∙ (rw c.in-Ok.ensures.cases.0 at c.in-Ok-table_from_str.ensures.ok))
