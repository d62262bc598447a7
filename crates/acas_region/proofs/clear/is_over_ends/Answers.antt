use Rattle.acas_areas.specs.View.{times_of}
use Rattle.acas_region.proofs.Clears.{both_decide, first_decides}
use Rattle.acas_region.proofs.clear.is_over_ends.Goals as goal

pub returns-then-is_over : goal.returns-then-is_over
returns-then-is_over c =
    let a = c.args.chase.now in
    both_decide c.args.half a.start a.aim a.pull a.hold a.height a.rate (times_of c.args.window.now) c.moment_of.result.den c.moment_of.result.num c.moment_of-then-is_over.result.den c.moment_of-then-is_over.result.num
    c.is_over.result c.is_over-then-is_over.result c.requires.falling (a.fits.at_once c.requires.falling) a.fits.some c.args.window.now.ends
    c.moment_of.ensures.num c.moment_of.ensures.den c.moment_of-then-is_over.ensures.num c.moment_of-then-is_over.ensures.den c.is_over.ensures c.is_over-then-is_over.ensures c.if-is_over.true

pub returns-else-is_over : goal.returns-else-is_over
returns-else-is_over c =
    let a = c.args.chase.now in
    first_decides c.args.half a.start a.aim a.pull a.hold a.height a.rate (times_of c.args.window.now) c.moment_of.result.den c.moment_of.result.num
    c.is_over.result c.requires.falling (a.fits.at_once c.requires.falling) a.fits.some c.args.window.now.ends
    c.moment_of.ensures.num c.moment_of.ensures.den c.is_over.ensures c.if-is_over.false
