use Rattle.acas_areas.specs.View.{area_of, demand_in, border_in, times_of}
use Rattle.acas_region.proofs.Clears.{below_by}
use Rattle.acas_region.proofs.clear.is_below.Goals as goal

pub returns : goal.returns
returns c =
    below_by c.args.half (demand_in c.args.asked.now) (area_of c.args.area.now) (times_of c.args.window.now) (border_in c.high_chase.result) c.stays_over.result c.high_chase.ensures c.stays_over.ensures
