use Rattle.acas_accept.proofs.Tables.{migrated_is_accepted, migrated_text}
use Rattle.acas_run_laws.proofs.accepted.migrated_texts_are_accepted.Goals as goal

pub returns-clause-text : goal.returns-clause-text
returns-clause-text c = λ m digest bytes t v small long is. migrated_text m digest bytes t v long is

pub returns-clause-accepted : goal.returns-clause-accepted
returns-clause-accepted c = λ m digest bytes t v small long is. migrated_is_accepted m digest bytes t v long is
