use Rattle.acas_accept.proofs.Tables.{accepted_has_none, given_is_accepted}
use Rattle.acas_run_laws.proofs.accepted.accepted_tables_have_no_refusal.Goals as goal

pub returns-clause-accepted : goal.returns-clause-accepted
returns-clause-accepted c = given_is_accepted

pub returns-clause-no_refusal : goal.returns-clause-no_refusal
returns-clause-no_refusal c = accepted_has_none
