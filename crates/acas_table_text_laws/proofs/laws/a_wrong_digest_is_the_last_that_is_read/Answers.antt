use Rattle.acas_table_text_laws.proofs.Digests.{digest_before}
use Rattle.acas_table_text_laws.proofs.laws.a_wrong_digest_is_the_last_that_is_read.Goals as goal

pub returns : goal.returns
returns c s bytes k i shape wrong behind within none = wrong (digest_before s bytes k i shape behind none)
