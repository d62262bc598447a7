use Rattle.acas_hunt_lemmas.proofs.Verdicts.{can-meet, not_apart-endangered}
use Rattle.acas_flight_laws.proofs.hunts.areas_that_are_not_apart_are_endangered.Goals as goal

pub returns : goal.returns
returns c = record {
  can = λ half h w is first last n. can-meet h is half w first last n;
  danger = λ half h w is first last thick timed n. not_apart-endangered h is half w first last thick timed n;
}
