use Rattle.std.proofs.Common.{refl}
use Rattle.std.specs.Fmt.{digits}
use Rattle.acas_outside.specs.Printed.{six_digits}
use Rattle.acas_run_laws.proofs.numbers.millionths_have_six_digits.Goals as goal

pub returns : goal.returns
unfolding digits six_digits
returns c = record { some = refl; none = refl; below_zero = refl; a_millionth_below = refl }
