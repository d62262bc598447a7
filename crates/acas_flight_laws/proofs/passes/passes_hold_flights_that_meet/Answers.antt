use Rattle.acas_pass_lemmas.proofs.Within.{each_from}
use Rattle.acas_pass_lemmas.proofs.Somes.{each_responds}
use Rattle.acas_flight_laws.proofs.passes.passes_hold_flights_that_meet.Goals as goal

pub returns-clause-from : goal.returns-clause-from
returns-clause-from c = λ s w is timed. each_from s is w timed

pub returns-clause-meets : goal.returns-clause-meets
returns-clause-meets c = each_responds
