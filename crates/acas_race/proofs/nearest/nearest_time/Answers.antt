use Rattle.std.proofs.Common.{rules}
use Rattle.acas_frac.specs.Fraction.{IsReduced}
use Rattle.acas_areas.specs.View.{times_of, time_at}
use Rattle.acas_race.specs.View.{race_in}
use Rattle.acas_race.proofs.SameTimes.{least_time-same}
use Rattle.acas_race.proofs.nearest.nearest_time.Goals as goal

pub returns-clause-extreme : goal.returns-clause-extreme
returns-clause-extreme c =
    let reduced : IsReduced c.time_of-time.result = search rules in
    record {
      reduced = reduced;
      ahead = c.time_of-time.ensures.end.least;
      first = least_time-same (race_in c.args.contest.now) (times_of c.args.window.now) c.time_of-time.result (time_at c.nearest-at.result)
          c.time_of-time.ensures.end.some c.nearest-at.result.within.some c.time_of-time.ensures.value c.nearest-at.ensures;
    }
