use Rattle.std.proofs.Common.{arith}
use Rattle.std.proofs.lemmas.Int.{ints}
use Rattle.acas_rulings.specs.Turns.{falling}
use Rattle.acas_race.specs.View.{instant_at}
use Rattle.acas_race.proofs.first.place.Goals as goal

pub returns-else-contest-clause-looked : goal.returns-else-contest-clause-looked
returns-else-contest-clause-looked c = falling (instant_at c.args.from.now) (let n = c.if-contest.false in omega (arith, ints, n))
