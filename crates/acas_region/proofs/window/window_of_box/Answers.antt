use Rattle.std.proofs.Common.{◌≡◌, ◌<◌, ◌≤◌, pos, arith, rules}
use Rattle.std.proofs.lemmas.Int.{ints}
use Rattle.std.proofs.lemmas.Grind.{common_steps}
use Rattle.acas_areas.specs.Limits.{interval_of}
use Rattle.acas_areas.specs.View.{times_of}
use Rattle.acas_flight_windows.proofs.Ends.{box_window}
use Rattle.acas_region.proofs.window.window_of_box.Goals as goal

pub returns : goal.returns
returns c =
    let near : c.args.range.least ≡ pos c.natural.result = omega (arith, ints, c.natural.ensures, c.requires.ahead, c.requires.fast, c.requires.short, c.args.range.ordered, c.args.closing.ordered) in
    let far : c.args.range.greatest ≡ pos c.natural-2.result = omega (arith, ints, c.natural-2.ensures, c.requires.ahead, c.requires.fast, c.requires.short, c.args.range.ordered, c.args.closing.ordered) in
    let slow : c.args.closing.least ≡ pos c.natural-3.result = omega (arith, ints, c.natural-3.ensures, c.requires.slow, c.requires.fast, c.args.closing.ordered) in
    let fast : c.args.closing.greatest ≡ pos c.natural-4.result = omega (arith, ints, c.natural-4.ensures, c.requires.slow, c.requires.fast, c.args.closing.ordered) in
    let some : 0 < c.natural-3.result = omega (arith, ints, slow, c.requires.slow) in
    let ranges : c.natural.result ≤ c.natural-2.result = omega (arith, ints, near, far, c.args.range.ordered) in
    let speeds : c.natural-3.result ≤ c.natural-4.result = omega (arith, ints, slow, fast, c.args.closing.ordered) in
    box_window c.args.model.now (interval_of c.args.range) (interval_of c.args.closing) (times_of c.between.result) c.disc_of-disc.result.radius c.natural.result c.natural-2.result c.natural-3.result c.natural-4.result
    c.disc_of-disc.ensures.radius near far slow fast some ranges speeds c.between.result.ends c.between.ensures.from c.between.ensures.to

pub natural-requires-2 : goal.natural-requires-2
natural-requires-2 c = grind (arith, common_steps)

pub natural-requires-3 : goal.natural-requires-3
natural-requires-3 c = grind (arith, common_steps)

pub natural-requires-4 : goal.natural-requires-4
natural-requires-4 c = grind (arith, common_steps)

pub between-requires : goal.between-requires
between-requires c = search rules
