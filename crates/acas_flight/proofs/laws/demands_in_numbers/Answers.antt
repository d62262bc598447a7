use Rattle.std.proofs.Common.{refl}
use Rattle.acas_flight.proofs.laws.demands_in_numbers.Goals as goal

pub returns : goal.returns
returns c = λ m a q. (refl, refl, refl, refl, refl)
