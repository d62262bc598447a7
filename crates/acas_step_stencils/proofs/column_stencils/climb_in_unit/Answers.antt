use Rattle.std.proofs.Common.{ℕ, subst, arith}
use Rattle.std.specs.Int.{◌∣◌}
use Rattle.std.proofs.lemmas.Int.{ints}
use Rattle.std.proofs.lemmas.Grind.{common_steps}
use Rattle.acas_step_stencils.proofs.column_stencils.climb_in_unit.Goals as goal

pub in_unit-steps-requires-clause-divides : goal.in_unit-steps-requires-clause-divides
in_unit-steps-requires-clause-divides c = subst (λ (n : ℕ). c.args.unit ∣ n) (omega (arith, ints, c.unsigned_abs.ensures.value)) c.requires.divides

pub returns-then-climb-lt0 : goal.returns-then-climb-lt0
returns-then-climb-lt0 c = record { value = grind (arith, common_steps); small = grind (arith, common_steps) }

pub returns-else-climb-lt0 : goal.returns-else-climb-lt0
returns-else-climb-lt0 c = record { value = grind (arith, common_steps); small = grind (arith, common_steps) }
