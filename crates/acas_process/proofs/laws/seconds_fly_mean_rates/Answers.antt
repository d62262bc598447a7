use Rattle.std.proofs.Common.{arith}
use Rattle.std.proofs.lemmas.Int.{ints}
use Rattle.acas_process.proofs.laws.seconds_fly_mean_rates.Goals as goal

pub returns-clause-altitude : goal.returns-clause-altitude
returns-clause-altitude c s own intruder = omega (arith, ints)
