use Rattle.std.proofs.Common.{pos, ap, arith}
use Rattle.std.proofs.lemmas.Int.{ints}
use Rattle.acas_frac.specs.Fraction.{Fraction}
use Rattle.acas_cell_examples.proofs.Shown.{ends_in_contact, flown}
use Rattle.acas_flight_examples.specs.Numbers.{state}
use Rattle.acas_cell_examples.proofs.rulings.rulings_are_by_the_rule.Goals as goal

pub returns-clause-certified : goal.returns-clause-certified
returns-clause-certified c none = none (1, state (pos 1000) (pos 250) (pos 100) (pos 0) (pos 0), flown, ends_in_contact)

pub returns-clause-reported : goal.returns-clause-reported
returns-clause-reported c r = omega (arith, ints, ap (λ (f : Fraction). f.num) r.rule.range.slowest)

pub returns-clause-by_rule : goal.returns-clause-by_rule
returns-clause-by_rule c w = omega (arith, ints, ap (λ (f : Fraction). f.num) w.range.slowest)
