use Rattle.std.proofs.Common.{w64, rules}
use Rattle.std.proofs.lemmas.Int.{to_z-of_z}
use Rattle.acas_step.proofs.CornerLaws.{fits_grid}
use Rattle.acas_step.proofs.cell.cell_near.Goals as goal
use mir.Val.{SFits}

pub returns-clause-round : goal.returns-clause-round
returns-clause-round c =
    let h : SFits w64 c.args.point.h = search rules in
    let v : SFits w64 c.args.point.v0 = search rules in
    let w : SFits w64 c.args.point.v1 = search rules in
    rw (← c.grid.view_is) (record { h = simp to_z-of_z at c.ends_near.ensures; v0 = simp to_z-of_z at c.ends_near-2.ensures; v1 = simp to_z-of_z at c.ends_near-3.ensures })

pub returns-clause-fits : goal.returns-clause-fits
returns-clause-fits c = fits_grid c.args.grid.now c.args.point _ c.requires.grid (returns-clause-round c)
