use Rattle.acas_process.proofs.HatLaws.{tent_other, tent_own, tent_straight}
use Rattle.acas_process.proofs.laws.tents_are_hat_functions.Goals as goal

pub returns-clause-own : goal.returns-clause-own
returns-clause-own c = tent_own

pub returns-clause-other : goal.returns-clause-other
returns-clause-other c = tent_other

pub returns-clause-between : goal.returns-clause-between
returns-clause-between c axis i k x a place low high = tent_straight axis i k x a (record { place = place; low = low; high = high })
