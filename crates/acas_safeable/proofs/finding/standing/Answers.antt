use Rattle.acas_areas.specs.View.{area_of, times_of}
use Rattle.acas_safeable.specs.View.{cell_of}
use Rattle.acas_safeable.proofs.Shown.{found_standing}
use Rattle.acas_safeable.proofs.finding.standing.Goals as goal

pub returns-in-Some : goal.returns-in-Some
returns-in-Some c =
    found_standing c.args.model.now (cell_of c.args.cell.now) c.grid.ensures.valid c.requires.later (area_of c.in-Some.area) (times_of c.window_of_cell.result) c.first_clear.result
    c.in-Some.ensures.area c.in-Some.ensures.within c.window_of_cell.ensures c.first_clear.ensures
