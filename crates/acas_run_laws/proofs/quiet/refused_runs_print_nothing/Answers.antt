use Rattle.acas_run_laws.proofs.Causes.{nothing-code, quiet-form}
use Rattle.acas_run_laws.proofs.quiet.refused_runs_print_nothing.Goals as goal

pub returns : goal.returns
returns c = λ form cause before after a done reported output. nothing-code cause before after (quiet-form form cause before after a) done reported output
