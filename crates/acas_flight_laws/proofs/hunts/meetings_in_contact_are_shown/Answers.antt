use Rattle.acas_hunt_lemmas.proofs.Showing.{shows-meeting, shown-endangers}
use Rattle.acas_flight_laws.proofs.hunts.meetings_in_contact_are_shown.Goals as goal

pub returns : goal.returns
returns c = record { shown = shows-meeting; danger = shown-endangers }
