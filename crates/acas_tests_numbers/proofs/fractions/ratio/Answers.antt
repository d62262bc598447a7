use Rattle.std.proofs.Common.{arith}
use Rattle.std.proofs.lemmas.Int.{ints}
use Rattle.acas_frac.proofs.Lowest.{small_reduces}
use Rattle.acas_tests_numbers.proofs.fractions.ratio.Goals as goal

pub new-requires-clause-within : goal.new-requires-clause-within
new-requires-clause-within c = small_reduces _ _ (omega (arith, ints)) (omega (arith, ints)) (omega (arith, ints))
