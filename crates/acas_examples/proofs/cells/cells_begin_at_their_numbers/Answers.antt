use Rattle.std.proofs.Common.{arith}
use Rattle.std.proofs.lemmas.Int.{ints}
use Rattle.acas_examples.proofs.cells.cells_begin_at_their_numbers.Goals as goal

pub returns-clause-not_before : goal.returns-clause-not_before
returns-clause-not_before c cell = omega (arith, cell.greatest 1 (omega arith) (omega (arith, ints)))
