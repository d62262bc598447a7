use Rattle.std.proofs.Common.{refl}
use Rattle.std.specs.Fmt.{digits}
use Rattle.acas_examples.proofs.fractions.fractions_are_printed.Goals as goal

pub returns-clause-halves : goal.returns-clause-halves
unfolding digits
returns-clause-halves c = refl

pub returns-clause-below_zero : goal.returns-clause-below_zero
unfolding digits
returns-clause-below_zero c = refl

pub returns-clause-whole : goal.returns-clause-whole
unfolding digits
returns-clause-whole c = refl

pub returns-clause-zero : goal.returns-clause-zero
unfolding digits
returns-clause-zero c = refl
