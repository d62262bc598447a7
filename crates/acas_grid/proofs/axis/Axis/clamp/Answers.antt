use Rattle.std.proofs.Common.{◌≤ℤ◌, arith}
use Rattle.std.proofs.lemmas.Int.{ints}
use Rattle.acas_grid.specs.Axis.{first_value, last_value}
use Rattle.acas_grid.proofs.Cells.{rises}
use Rattle.acas_grid.proofs.axis.Axis.clamp.Goals as goal

pub nearest-requires : goal.nearest-requires
nearest-requires c =
    let ends : first_value c.args.self.now ≤ℤ last_value c.args.self.now = rises c.args.self.now c.len.ensures.axis.rising 0 _ (omega arith) (omega arith) in
    let last = rw c.len.ensures.value at c.value-last.ensures.value in
    omega (arith, ints)
