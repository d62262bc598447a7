use Rattle.std.proofs.Common.{arith}
use Rattle.acas_drill_model.proofs.Words.{named, names}
use Rattle.acas_drill_model.proofs.laws.number_words_are_decimal.Goals as goal

pub returns : goal.returns
returns c least greatest word number small = (
  λ is. let n = named least greatest word number is in (n.low, n.high, n.text),
  λ is. names least greatest word number (omega (arith, is.1, small)) (record { low = is.0; high = is.1; text = is.2 }),
)
