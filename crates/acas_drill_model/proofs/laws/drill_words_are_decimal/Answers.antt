use Rattle.std.proofs.Common.{arith}
use Rattle.acas_units.specs.declared.limits.TheConstants.{GREATEST_DRILL_NUMBER, LEAST_DRILL_NUMBER}
use Rattle.acas_drill_model.specs.Word.{drill_number}
use Rattle.acas_drill_model.proofs.Words.{named, names}
use Rattle.acas_drill_model.proofs.laws.drill_words_are_decimal.Goals as goal

pub returns : goal.returns
unfolding drill_number
returns c word number = (
  λ is. let n = named LEAST_DRILL_NUMBER GREATEST_DRILL_NUMBER word number is in (n.high, n.text),
  λ is. names LEAST_DRILL_NUMBER GREATEST_DRILL_NUMBER word number (omega (arith, is.0)) (record { low = omega arith; high = is.0; text = is.1 }),
)
