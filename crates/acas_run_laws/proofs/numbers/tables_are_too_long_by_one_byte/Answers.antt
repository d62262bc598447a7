use Rattle.std.proofs.Common.{refl}
use Rattle.acas_run_laws.proofs.numbers.tables_are_too_long_by_one_byte.Goals as goal

pub returns : goal.returns
returns c = record { two = refl; one = refl; none = refl }
