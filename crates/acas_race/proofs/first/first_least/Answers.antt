use Rattle.acas_race.specs.View.{instant_at, race_in}
use Rattle.acas_manoeuvre_lemmas.proofs.FirstTimes.{first_least_time}
use Rattle.acas_race.proofs.first.first_least.Goals as goal

pub returns : goal.returns
returns c =
    let f = c.args.contest.now.fits in
    first_least_time (race_in c.args.contest.now) (instant_at c.args.from.now) (instant_at c.place-turn.result) (instant_at c.args.to.now) (instant_at c.first_of.result) c.args.contest.now.chase.fits.some f.some_accel f.up
    c.args.from.now.within.some c.place-turn.result.within.some c.args.to.now.within.some
    c.place-turn.ensures.after c.place-turn.ensures.before c.requires.order c.place-turn.ensures.looked c.first_of.ensures
