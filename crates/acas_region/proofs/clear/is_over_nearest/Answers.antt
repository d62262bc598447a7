use Rattle.acas_areas.specs.View.{times_of}
use Rattle.acas_region.proofs.Clears.{nearest_decides}
use Rattle.acas_region.proofs.clear.is_over_nearest.Goals as goal

pub returns : goal.returns
returns c =
    let a = c.args.chase.now in
    nearest_decides c.args.half a.start a.aim a.pull a.hold a.height a.rate (times_of c.args.window.now) c.nearest.result.den c.nearest.result.num c.is_over.result
    c.requires.rising a.fits.some c.args.window.now.ends c.nearest.result.within.some c.nearest.ensures c.is_over.ensures
