use Rattle.std.proofs.Common.{arith, pos}
use Rattle.std.proofs.lemmas.Grind.{common_steps}
use Rattle.acas_frac.proofs.Bounds.{product_size}
use Rattle.acas_witness_plans.proofs.Casts.{product_wide}
use Rattle.acas_witness_plans.proofs.flown.climb_over.Goals as goal

pub overflow_mul-result : goal.overflow_mul-result
overflow_mul-result c = grind (arith, common_steps)

pub returns-clause-value : goal.returns-clause-value
returns-clause-value c = product_wide c.args.num c.from.result c.args.den 2000000000000000000000000000000 10240000 c.from.ensures c.requires.num c.requires.den (omega arith) (omega arith) (omega arith)

pub returns-clause-size : goal.returns-clause-size
returns-clause-size c =
    let e = product_wide c.args.num c.from.result c.args.den 2000000000000000000000000000000 10240000 c.from.ensures c.requires.num c.requires.den (omega arith) (omega arith) (omega arith) in
    rw e (omega (arith, product_size c.args.num (pos c.args.den) 2000000000000000000000000000000 10240000 c.requires.num c.requires.den))
