use Rattle.std.proofs.Common.{◌≡◌, pos, to_z, arith}
use Rattle.std.specs.Int.{w64}
use Rattle.std.proofs.lemmas.Int.{ints}
use Rattle.acas_witness_plans.proofs.Lattices.{time_of}
use Rattle.acas_witness_plans.proofs.points.time_at.Goals as goal

pub returns-clause-time : goal.returns-clause-time
returns-clause-time c =
    let e : to_z w64 c.args.steps ≡ pos c.args.steps = omega (arith, ints) in
    time_of c.ratio.result c.args.steps c.args.den c.ratio.ensures.lowest (rw e at c.ratio.ensures.value) c.requires.some c.requires.den c.requires.most
