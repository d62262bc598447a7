use Rattle.std.proofs.Common.{◌≢◌, ℕ, ◌<◌, get_or}
use Rattle.acas_bounds.specs.Planes.{no_plane_choice}
use Rattle.acas_bounds.proofs.plane.Plane.scanned_place.Given as goal

abbrev pub invariant-loop-place : goal.invariant-loop-place
invariant-loop-place l = (k : ℕ) → k < l.place → (get_or l.self.choices k no_plane_choice).advisory ≢ l.advisory
