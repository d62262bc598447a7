use Rattle.std.proofs.Common.{ℕ, subst, arith}
use Rattle.std.specs.Int.{◌∣◌}
use Rattle.std.proofs.lemmas.Int.{ints}
use Rattle.acas_step_stencils.proofs.column_stencils.counted.Goals as goal

pub climb_in_unit-requires-clause-divides : goal.climb_in_unit-requires-clause-divides
climb_in_unit-requires-clause-divides c = subst (λ (n : ℕ). c.args.units.h ∣ n) (omega (arith, ints, c.requires.small)) c.requires.offsets.climb
