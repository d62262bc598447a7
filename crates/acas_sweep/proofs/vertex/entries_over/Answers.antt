use Rattle.acas_grid.specs.States.{vertex_at}
use Rattle.acas_sweep.proofs.BestEntries.{entries_over, leave_room}
use Rattle.acas_sweep.proofs.vertex.entries_over.Goals as goal

pub fill_best-requires-clause-means : goal.fill_best-requires-clause-means
fill_best-requires-clause-means g c =
    let m = c.args.model.now in
    leave_room m c.args.below.now (vertex_at m.grid c.args.vertex) c.means_at-means.result c.grid.ensures.valid c.requires.over.below c.means_at-means.ensures.means c.requires.small

pub returns-clause-entries : goal.returns-clause-entries
returns-clause-entries g c =
    let m = c.args.model.now in
    entries_over m c.args.below.now (vertex_at m.grid c.args.vertex) c.means_at-means.result c.fill_best.new.entries c.grid.ensures.valid c.means_at-means.ensures.means c.fill_best.ensures.best
