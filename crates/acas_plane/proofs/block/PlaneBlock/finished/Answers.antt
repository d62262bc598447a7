use Rattle.std.proofs.Common.{ap, sym, ◌∙◌}
use Rattle.circular_buffer.specs.Places.{somes}
use Rattle.circular_buffer.proofs.Places.{somes-map}
use Rattle.acas_plane.specs.Plane.{Plane}
use Rattle.acas_plane.proofs.block.PlaneBlock.finished.Goals as goal

pub returns : goal.returns
returns c = sym (somes-map c.run.result.now) ∙ ap somes (sym c.run.ensures) ∙ ap (λ (p : Plane). p.finished) c.self.view_is
