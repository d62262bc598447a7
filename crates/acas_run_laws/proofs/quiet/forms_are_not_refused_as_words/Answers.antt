use Rattle.acas_command.specs.declared.status.Cause.TheVariants.{Words}
use Rattle.acas_run_laws.proofs.Causes.{answers-form}
use Rattle.acas_run_laws.proofs.quiet.forms_are_not_refused_as_words.Goals as goal

pub returns : goal.returns
returns c = λ form before after a. (answers-form form Words before after a).has_cause
