use Rattle.acas_witness_response.proofs.LowestTerms.{flight_reduced}
use Rattle.acas_witness_response.proofs.reduced.open_flight.Goals as goal

pub returns : goal.returns
returns c = flight_reduced c.args.flight.now c.open.ensures c.open-2.ensures c.open-3.ensures c.open_hold.ensures c.open_part.ensures c.open_part-2.ensures
