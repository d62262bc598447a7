use Rattle.std.proofs.Common.{◌+◌, ◌*◌, ◌≤◌, mul-le-mul_right, arith}
use Rattle.acas_spec.specs.Model.{total_weight}
use Rattle.acas_step_columns.proofs.columns.source_of.Goals as goal

pub returns-then-fill_sums : goal.returns-then-fill_sums
returns-then-fill_sums c =
    let least : total_weight c.args.over.now.model.now ≤ c.args.over.now.reach.widest = omega (arith, c.if-over.true, c.requires.usable.stencils.by) in (
      omega (arith, mul-le-mul_right (2 * c.args.over.now.reach.size + 1) least, c.requires.reach.room),
      c.fill_sums.ensures c.if-fill_sums.true,
    )
