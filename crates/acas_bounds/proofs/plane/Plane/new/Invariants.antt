use Rattle.std.proofs.Common.{◌≡◌, ℕ, ◌<◌, length, get_or}
use Rattle.acas_means.specs.Choices.{listed_choice}
use Rattle.acas_bounds.specs.Planes.{IsPlaneChoice, no_plane_choice}
use Rattle.acas_bounds.proofs.plane.Plane.new.Given as goal

abbrev pub invariant-loop-place : goal.invariant-loop-place
invariant-loop-place l = record {
  long : length l.choices ≡ 16;
  advisory : (k : ℕ) → k < l.place → (get_or l.choices k no_plane_choice).advisory ≡ (listed_choice l.model l.present k).advisory;
  choice : (k : ℕ) → k < l.place → IsPlaneChoice l.model l.present (get_or l.choices k no_plane_choice);
}
