use Rattle.acas_cells.proofs.Exact.{at_from, corner_of_places, corner_places, tabled_from}
use Rattle.acas_cells.proofs.laws.advices_at_corners_are_tabled.Goals as goal

pub returns : goal.returns
returns c = λ m a cell advice. (
  λ at.
      let is = tabled_from m a cell advice at in
      let p = corner_places cell is.corner is.is_corner in
      (is.corner, p.0, p.1, p.2, p.3, p.4, p.5, is.tabled),
  λ h. at_from m a cell advice (record { corner = h.0; is_corner = corner_of_places cell h.0 h.1 h.2 h.3 h.4 h.5 h.6; tabled = h.7 }),
)
