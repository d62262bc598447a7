use Rattle.acas_areas.specs.View.{times_of}
use Rattle.acas_race.specs.View.{race_in, instant_at}
use Rattle.acas_manoeuvre_lemmas.proofs.Stays.{stays-at}
use Rattle.acas_race.proofs.Tests.{decided}
use Rattle.acas_race.proofs.apart.stays_above.Goals as goal

pub returns : goal.returns
returns c = decided _ _ c.is_over.result _ c.is_over.ensures (stays-at c.args.half (race_in c.args.contest.now) (times_of c.args.window.now) (instant_at c.nearest.result) c.nearest.result.within.some c.nearest.ensures)
