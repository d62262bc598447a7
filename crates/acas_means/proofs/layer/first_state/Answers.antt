use Rattle.std.proofs.Common.{◌*◌, ℕ, ap, arith}
use Rattle.std.proofs.Math.Nat.{mul-le-mul_right}
use Rattle.acas_spec.specs.Model.{vertices}
use Rattle.acas_means.proofs.layer.first_state.Goals as goal

pub returns-clause-room : goal.returns-clause-room
returns-clause-room c = omega (arith, c.from.ensures, mul-le-mul_right (vertices c.args.grid.now) c.requires, ap (λ (v : ℕ). c.from.result * v) c.vertices.ensures.value, ap (λ (v : ℕ). v * vertices c.args.grid.now) c.from.ensures)
