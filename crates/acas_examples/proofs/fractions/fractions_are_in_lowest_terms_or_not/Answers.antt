use Rattle.std.proofs.Common.{◌≡◌, ℕ, ◌*◌, arith}
use Rattle.std.proofs.lemmas.Nat.Gcd.{dvd_refl, dvd-zero, le_of_dvd}
use Rattle.std.proofs.Math.Nat.{dvd-mul_left, one-dvd}
use Rattle.acas_examples.proofs.fractions.fractions_are_in_lowest_terms_or_not.Goals as goal

pub returns-clause-half : goal.returns-clause-half
returns-clause-half c = record { some = omega arith; lowest = (one-dvd 1, one-dvd 2, λ k i j. i) }

pub returns-clause-below_zero : goal.returns-clause-below_zero
returns-clause-below_zero c = record { some = omega arith; lowest = (one-dvd 1, one-dvd 2, λ k i j. i) }

pub returns-clause-two_quarters : goal.returns-clause-two_quarters
returns-clause-two_quarters c h = omega (arith, le_of_dvd (omega arith) (h.lowest.2 2 (dvd_refl 2) (dvd-mul_left 2 2)))

pub returns-clause-zero : goal.returns-clause-zero
returns-clause-zero c = record { some = omega arith; lowest = (one-dvd 0, one-dvd 1, λ k i j. j) }

pub returns-clause-zero_halves : goal.returns-clause-zero_halves
returns-clause-zero_halves c h = omega (arith, le_of_dvd (omega arith) (h.lowest.2 2 (dvd-zero 2) (dvd_refl 2)))
