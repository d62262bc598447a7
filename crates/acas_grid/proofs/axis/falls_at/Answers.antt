use Rattle.std.proofs.Common.{◌-◌, sym, ◌∙◌, arith}
use Rattle.acas_grid.proofs.Falls.{fall_none}
use Rattle.acas_grid.proofs.axis.falls_at.Goals as goal

pub returns-clause-fall : goal.returns-clause-fall
returns-clause-fall c = sym (sym c.loop-place.invariant.0 ∙ fall_none c.args.values.now (c.loop-place.place - 1) (omega arith))
