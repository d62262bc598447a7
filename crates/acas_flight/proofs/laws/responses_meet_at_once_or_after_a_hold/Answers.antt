use Rattle.acas_flight.proofs.Responses.{meets-some}
use Rattle.acas_flight.proofs.laws.responses_meet_at_once_or_after_a_hold.Goals as goal

pub returns : goal.returns
returns c = record {
  none = λ a v. tt;
  no_more = λ a v. tt;
  follows = λ a v s rest. (λ f. f, λ f. f);
  some = meets-some;
}
