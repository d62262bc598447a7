use Rattle.acas_flight.proofs.Responses.{meets-no_delay}
use Rattle.acas_flight.proofs.laws.no_response_holds_without_delay.Goals as goal

pub returns : goal.returns
returns c = meets-no_delay
