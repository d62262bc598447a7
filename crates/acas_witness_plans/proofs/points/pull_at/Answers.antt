use Rattle.std.proofs.Common.{◌≡◌, pos, to_z, arith}
use Rattle.std.specs.Int.{w64}
use Rattle.std.proofs.lemmas.Int.{ints}
use Rattle.acas_witness_plans.proofs.Lattices.{pull_of}
use Rattle.acas_witness_plans.proofs.points.pull_at.Goals as goal

pub returns-clause-pull : goal.returns-clause-pull
returns-clause-pull c =
    let e : to_z w64 c.args.steps ≡ pos c.args.steps = omega (arith, ints) in
    pull_of c.ratio.result c.args.steps c.ratio.ensures.lowest (rw e at c.ratio.ensures.value) c.requires.least c.requires.most
