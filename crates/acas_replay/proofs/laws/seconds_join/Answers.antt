use Rattle.acas_replay.proofs.FlightContacts.{joined}
use Rattle.acas_replay.proofs.laws.seconds_join.Goals as goal

pub returns : goal.returns
returns c = joined
