use Rattle.acas_hunt_lemmas.proofs.Prints.{printed-contact, rule-contact}
use Rattle.acas_flight_laws.proofs.hunts.printed_meetings_show_contact.Goals as goal

pub returns : goal.returns
returns c = record {
  found = λ half h w c meeting thick is timed can found prints lowest. printed-contact half h w c meeting thick is timed can found prints lowest;
  rule = rule-contact;
}
