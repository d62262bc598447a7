use Rattle.acas_areas.specs.View.{area_of, demand_in, border_in, times_of}
use Rattle.acas_region.proofs.Clears.{above_by}
use Rattle.acas_region.proofs.clear.is_above.Goals as goal

pub returns : goal.returns
returns c =
    above_by c.args.half (demand_in c.args.asked.now) (area_of c.args.area.now) (times_of c.args.window.now) (border_in c.low_chase.result) c.stays_over.result c.low_chase.ensures c.stays_over.ensures
