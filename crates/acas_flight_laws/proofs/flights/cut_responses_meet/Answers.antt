use Rattle.acas_flight_lemmas.proofs.Cuts.{until-none, until-part, until-whole, cuts_meet}
use Rattle.acas_flight_laws.proofs.flights.cut_responses_meet.Goals as goal

pub returns : goal.returns
returns c = record {
  none = until-none;
  part = until-part;
  whole = until-whole;
  lasts = λ a v r t fine m h. (cuts_meet a v r t fine m h).0;
  meets = λ a v r t fine m h. (cuts_meet a v r t fine m h).1;
}
