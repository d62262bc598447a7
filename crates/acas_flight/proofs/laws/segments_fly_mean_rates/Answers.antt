use Rattle.std.proofs.Common.{refl}
use Rattle.acas_flight.proofs.Responses.{climb_cons}
use Rattle.acas_flight.proofs.laws.segments_fly_mean_rates.Goals as goal

pub returns : goal.returns
returns c = record { no_time = refl; lasts = λ s rest. refl; no_climb = λ v. refl; climbs = climb_cons }
