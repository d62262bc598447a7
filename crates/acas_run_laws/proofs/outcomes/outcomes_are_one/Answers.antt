use Rattle.acas_run_laws.proofs.OneOutcome.{one-outcome}
use Rattle.acas_run_laws.proofs.SomeOutcome.{some-outcome}
use Rattle.acas_run_laws.proofs.OneReport.{reports-one}
use Rattle.acas_run_laws.proofs.outcomes.outcomes_are_one.Goals as goal

pub returns-clause-some : goal.returns-clause-some
returns-clause-some c = λ form files has bytes. some-outcome reports-one c.drilled_models_are_within_limits.ensures.within form files has bytes

pub returns-clause-one : goal.returns-clause-one
returns-clause-one c = λ form files o p has first second. one-outcome reports-one c.drilled_models_are_within_limits.ensures.within form files o p has first second
