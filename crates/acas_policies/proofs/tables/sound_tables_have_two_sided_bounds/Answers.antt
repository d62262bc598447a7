use Rattle.acas_policies.proofs.BoundLaws.{two_sided_bounds}
use Rattle.acas_policies.proofs.tables.sound_tables_have_two_sided_bounds.Goals as goal

pub returns : goal.returns
returns c = two_sided_bounds
