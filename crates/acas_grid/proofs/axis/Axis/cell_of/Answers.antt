use Rattle.std.proofs.Common.{SFits, w64}
use Rattle.std.proofs.lemmas.Int.{to_z-of_z}
use Rattle.acas_grid.proofs.Cells.{cell_from}
use Rattle.acas_grid.proofs.axis.Axis.cell_of.Goals as goal

pub returns : goal.returns
returns c =
    let fits : SFits w64 c.args.x = c.ranges.x in
    let at = simp (to_z-of_z, c.as_slice.ensures.value) at c.cell_at.ensures in
    rw (← c.self.view_is) (cell_from c.self.inside.values.items c.cell_at.result c.args.x c.self.invariant.rising at.before_last at.lower at.upper at.next)
