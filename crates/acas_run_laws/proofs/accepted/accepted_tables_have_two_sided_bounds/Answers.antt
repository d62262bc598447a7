use Rattle.acas_policies.proofs.BoundLaws.{two_sided_bounds}
use Rattle.acas_run_laws.proofs.accepted.accepted_tables_have_two_sided_bounds.Goals as goal

pub returns : goal.returns
returns c m digest bytes t v is = two_sided_bounds m t v is.sound
