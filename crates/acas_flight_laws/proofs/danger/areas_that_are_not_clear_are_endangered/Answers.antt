use Rattle.acas_witness_lemmas.proofs.Dangers.{not_clear_in}
use Rattle.acas_flight_laws.proofs.danger.areas_that_are_not_clear_are_endangered.Goals as goal

pub returns : goal.returns
returns c = not_clear_in
