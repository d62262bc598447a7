use Rattle.std.proofs.Common.{arith}
use Rattle.acas_frac.proofs.Bounds.{product_size}
use Rattle.acas_witness_plans.proofs.Casts.{product128}
use Rattle.acas_witness_plans.proofs.numbers.across.Goals as goal

pub returns-clause-value : goal.returns-clause-value
returns-clause-value c = product128 c.args.part c.args.den 1000000000000000000000000 10000000000000 c.requires.part c.requires.den (omega arith) (omega arith) (omega arith)

pub returns-clause-size : goal.returns-clause-size
returns-clause-size c =
    let e = product128 c.args.part c.args.den 1000000000000000000000000 10000000000000 c.requires.part c.requires.den (omega arith) (omega arith) (omega arith) in
    rw e (omega (arith, product_size c.args.part c.args.den 1000000000000000000000000 10000000000000 c.requires.part c.requires.den))
