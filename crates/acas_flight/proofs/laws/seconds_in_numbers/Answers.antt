use Rattle.std.proofs.Common.{arith}
use Rattle.std.proofs.lemmas.Int.{ints}
use Rattle.acas_flight.proofs.Numbers.{seconds-outside, seconds-within}
use Rattle.acas_flight.proofs.laws.seconds_in_numbers.Goals as goal

pub returns : goal.returns
returns c = record {
  outside = seconds-outside;
  behind = λ m n q range closing h a. omega (arith, ints, h, a.ahead);
  within = seconds-within;
}
