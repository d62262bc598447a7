use Rattle.std.proofs.Common.{arith}
use Rattle.std.proofs.lemmas.Grind.{common_steps}
use Rattle.acas_witness_plans.proofs.flown.is_in_contact.Goals as goal

pub returns-then-band-value : goal.returns-then-band-value
returns-then-band-value c = grind (arith, common_steps)

pub returns-else-band-value : goal.returns-else-band-value
returns-else-band-value c = grind (arith, common_steps)
