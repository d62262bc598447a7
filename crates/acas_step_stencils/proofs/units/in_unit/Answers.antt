use Rattle.std.proofs.Common.{◌*◌, ◌/◌, ℕ, ap, ◌∙◌, arith}
use Rattle.std.proofs.Math.Nat.{div-le_self, mul-div_cancel'}
use Rattle.acas_step_stencils.proofs.units.in_unit.Goals as goal

pub overflow_cast-result : goal.overflow_cast-result
overflow_cast-result c = omega (arith, div-le_self c.from.result c.args.unit, c.from.ensures)

pub returns : goal.returns
returns c = ap (λ (n : ℕ). c.args.unit * (n / c.args.unit)) c.from.ensures ∙ mul-div_cancel' c.args.unit c.requires.divides
