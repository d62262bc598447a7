use Rattle.acas_hunt_lemmas.proofs.Gentle.{each_gentle}
use Rattle.acas_flight_laws.proofs.hunts.hunts_are_gentle.Goals as goal

pub returns : goal.returns
returns c = each_gentle
