use Rattle.acas_process.specs.Compiled.{compiled}
use Rattle.acas_policies.proofs.BoundLaws.{two_sided_bounds}
use Rattle.acas_policies.proofs.CompiledBounds.{compiled_is_sound, compiled_is_tight}
use Rattle.acas_policies.proofs.tables.compiled_tables_are_sound_and_tight.Goals as goal

pub returns-clause-sound : goal.returns-clause-sound
returns-clause-sound c = compiled_is_sound

pub returns-clause-bounds : goal.returns-clause-bounds
returns-clause-bounds c m v = two_sided_bounds m (compiled m) v (compiled_is_sound m v)

pub returns-clause-tight : goal.returns-clause-tight
returns-clause-tight c = compiled_is_tight
