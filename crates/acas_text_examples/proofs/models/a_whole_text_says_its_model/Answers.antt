use Rattle.std.proofs.Common.{pos, arith}
use Rattle.acas_text_examples.specs.Documents.{delayed_keys, prompt_keys}
use Rattle.acas_text_examples.proofs.Said.{delayed_keys-only, delayed_says, document_says, prompt_keys-only, prompt_says}
use Rattle.acas_text_examples.proofs.models.a_whole_text_says_its_model.Goals as goal

pub returns-clause-first : goal.returns-clause-first
returns-clause-first c = document_says 1 (prompt_keys (pos 480) (pos 960)) (omega arith) (omega arith) prompt_keys-only prompt_says

pub returns-clause-second : goal.returns-clause-second
returns-clause-second c = document_says 2 (delayed_keys (pos 0)) (omega arith) (omega arith) delayed_keys-only delayed_says
