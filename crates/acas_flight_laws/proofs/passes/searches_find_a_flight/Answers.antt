use Rattle.acas_pass_lemmas.proofs.Founds.{endangers, finds, response}
use Rattle.acas_flight_laws.proofs.passes.searches_find_a_flight.Goals as goal

pub returns-clause-found : goal.returns-clause-found
returns-clause-found c = finds

pub returns-clause-response : goal.returns-clause-response
returns-clause-response c = response

pub returns-clause-danger : goal.returns-clause-danger
returns-clause-danger c = endangers
