use Rattle.std.proofs.Common.{ℕ, subst, ◌∙◌, arith}
use Rattle.std.specs.Int.{◌∣◌}
use Rattle.std.proofs.lemmas.Int.{ints}
use Rattle.acas_step_stencils.proofs.column_stencils.units_with.Goals as goal

pub returns-clause-offsets : goal.returns-clause-offsets
returns-clause-offsets c = record {
  climb = subst (λ (n : ℕ). c.common.result ∣ n) (c.from.ensures ∙ omega (arith, ints, c.unsigned_abs.ensures.value)) c.common.ensures.divisor.0;
  v0 = subst (λ (n : ℕ). c.common-2.result ∣ n) c.from-2.ensures c.common-2.ensures.divisor.0;
  v1 = subst (λ (n : ℕ). c.common-3.result ∣ n) c.from-3.ensures c.common-3.ensures.divisor.0;
}
