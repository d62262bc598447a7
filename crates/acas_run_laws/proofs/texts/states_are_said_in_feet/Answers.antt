use Rattle.std.proofs.Common.{refl}
use Rattle.std.specs.Fmt.{digits}
use Rattle.acas_command.specs.Fields.{field, state_fields}
use Rattle.acas_run_laws.proofs.texts.states_are_said_in_feet.Goals as goal

pub returns-clause-below : goal.returns-clause-below
unfolding digits field state_fields
returns-clause-below c = λ m. refl

pub returns-clause-above : goal.returns-clause-above
unfolding digits field state_fields
returns-clause-above c = λ m. refl

pub returns-clause-field : goal.returns-clause-field
unfolding field
returns-clause-field c = refl
