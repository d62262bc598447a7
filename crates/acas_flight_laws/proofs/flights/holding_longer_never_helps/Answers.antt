use Rattle.acas_flight_lemmas.proofs.Longer.{held_longer-rising, held_longer-falling}
use Rattle.acas_flight_laws.proofs.flights.holding_longer_never_helps.Goals as goal

pub returns : goal.returns
returns c = record { rising = held_longer-rising; falling = held_longer-falling }
