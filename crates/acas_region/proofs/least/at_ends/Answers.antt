use Rattle.std.proofs.Common.{◌∙◌, sym}
use Rattle.acas_areas.specs.View.{times_of}
use Rattle.acas_flight_windows.proofs.LeastGaps.{first_of_ends, last_of_ends}
use Rattle.acas_region.proofs.least.at_ends.Goals as goal

pub returns-then-is_at_most-clause-least : goal.returns-then-is_at_most-clause-least
returns-then-is_at_most-clause-least c =
    let a = c.args.chase.now in
    first_of_ends a.start a.aim a.pull a.hold a.height a.rate (times_of c.args.window.now) c.gap-first.result c.gap-last.result c.requires (c.args.chase.now.fits.at_once c.requires) c.args.chase.now.fits.some c.args.window.now.ends
    c.gap-first.ensures.lowest c.gap-last.ensures.lowest c.gap-first.ensures.value c.gap-last.ensures.value (sym c.is_at_most.ensures ∙ c.if-is_at_most.true)

pub returns-else-is_at_most-clause-least : goal.returns-else-is_at_most-clause-least
returns-else-is_at_most-clause-least c =
    let a = c.args.chase.now in
    last_of_ends a.start a.aim a.pull a.hold a.height a.rate (times_of c.args.window.now) c.gap-first.result c.gap-last.result c.requires (c.args.chase.now.fits.at_once c.requires) c.args.chase.now.fits.some c.args.window.now.ends
    c.gap-first.ensures.lowest c.gap-last.ensures.lowest c.gap-first.ensures.value c.gap-last.ensures.value (sym c.is_at_most.ensures ∙ c.if-is_at_most.false)
