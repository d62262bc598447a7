use Rattle.acas_areas.specs.View.{area_of, demand_in, times_of}
use Rattle.acas_region.proofs.Clears.{either_decides}
use Rattle.acas_region.proofs.clear.is_clear_of.Goals as goal

pub returns-else-is_above : goal.returns-else-is_above
returns-else-is_above c =
    either_decides c.args.half (demand_in c.args.asked.now) (area_of c.args.area.now) (times_of c.args.window.now) c.is_above.result c.is_below.result c.if-is_above.false c.is_above.ensures c.is_below.ensures
