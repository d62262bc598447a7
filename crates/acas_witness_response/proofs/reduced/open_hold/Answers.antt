use Rattle.acas_witness_response.proofs.LowestTerms.{hold_reduced}
use Rattle.acas_witness_response.proofs.reduced.open_hold.Goals as goal

pub returns-in-Some : goal.returns-in-Some
returns-in-Some c = rw c.in-Some.is (hold_reduced _ c.open.ensures)
