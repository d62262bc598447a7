use Rattle.acas_flight.proofs.Numbers as numbers
use Rattle.acas_flight.proofs.laws.contact_in_numbers.Goals as goal

pub returns : goal.returns
returns c = numbers.contact
