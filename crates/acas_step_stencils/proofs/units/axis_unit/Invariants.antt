use Rattle.std.proofs.Common.{ℕ, ◌<◌}
use Rattle.std.specs.Int.{◌∣◌}
use Rattle.acas_process.specs.Axis.{gap}
use Rattle.acas_step_stencils.proofs.units.axis_unit.Given as goal

abbrev pub invariant-loop-place : goal.invariant-loop-place
invariant-loop-place l = record { some : 0 < l.unit; gaps : (k : ℕ) → k < l.place → l.unit ∣ gap l.axis k }
