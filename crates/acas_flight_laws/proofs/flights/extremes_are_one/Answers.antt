use Rattle.std.proofs.Common.{neg_ℤ}
use Rattle.acas_flight.specs.Clear.{greatest_gap, least_gap}
use Rattle.acas_flight_lemmas.proofs.Extremes.{extreme-same, extreme-windows}
use Rattle.acas_flight_laws.proofs.flights.extremes_are_one.Goals as goal

pub returns : goal.returns
returns c = record {
  low = λ a area. extreme-same (λ q t. least_gap q a area t);
  high = λ a area. extreme-same (λ q t. neg_ℤ (greatest_gap q a area t));
  windows = λ a area v w time same.
      (extreme-windows (λ q t. least_gap q a area t) v w time same, extreme-windows (λ q t. neg_ℤ (greatest_gap q a area t)) v w time same);
}
