use Rattle.acas_areas.specs.View.{times_of}
use Rattle.acas_race.specs.View.{race_in, instant_at}
use Rattle.acas_race.proofs.Tests.{in_order, on_window}
use Rattle.acas_race.proofs.nearest.nearest.Goals as goal

pub first_least-requires : goal.first_least-requires
first_least-requires c = record { order = in_order (times_of c.args.window.now) (instant_at c.moment_of.result) (instant_at c.moment_of-2.result) c.moment_of.ensures.num c.moment_of.ensures.den c.moment_of-2.ensures.num c.moment_of-2.ensures.den c.args.window.now.ends.order }

pub returns : goal.returns
returns c = on_window (race_in c.args.contest.now) (times_of c.args.window.now) (instant_at c.moment_of.result) (instant_at c.moment_of-2.result) (instant_at c.first_least.result)
    c.moment_of.ensures.num c.moment_of.ensures.den c.moment_of-2.ensures.num c.moment_of-2.ensures.den c.first_least.ensures
