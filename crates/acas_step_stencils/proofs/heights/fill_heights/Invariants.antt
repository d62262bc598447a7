use Rattle.std.proofs.Common.{◌≡◌, ℕ, ◌*◌, ◌<◌, length, get_or}
use Rattle.acas_spec.specs.Axis.{place_value}
use Rattle.acas_process.specs.Axis.{distance}
use Rattle.acas_step_stencils.proofs.heights.fill_heights.Given as goal

abbrev pub invariant-loop-place : goal.invariant-loop-place
invariant-loop-place l = record {
  long : length l.heights ≡ length l.grid.h;
  each : (k : ℕ) → k < l.place → l.unit * get_or l.heights k 0 ≡ distance (place_value l.grid.h 0) (place_value l.grid.h k);
}
