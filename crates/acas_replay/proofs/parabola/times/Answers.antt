use Rattle.std.proofs.Common.{arith}
use Rattle.std.proofs.lemmas.Int.{ints}
use Rattle.acas_frac.proofs.Bounds.{product_size}
use Rattle.acas_replay.specs.declared.parabola.TheConstants.{LARGEST_LEVEL, LARGEST_SQUARE}
use Rattle.acas_replay.proofs.Casts.{whole, whole_product}
use Rattle.acas_replay.proofs.parabola.times.Goals as goal

pub returns : goal.returns
returns c =
    let e = whole_product c.args.a c.args.b LARGEST_LEVEL LARGEST_SQUARE c.requires.a c.requires.b (omega arith) (omega arith) (omega arith) in
    record { value = e; size = rw e (product_size c.args.a c.args.b LARGEST_LEVEL LARGEST_SQUARE c.requires.a c.requires.b) }

pub overflow_mul-result : goal.overflow_mul-result
overflow_mul-result c = rw (whole c.args.a LARGEST_LEVEL c.requires.a (omega arith), whole c.args.b LARGEST_SQUARE c.requires.b (omega arith)) (omega (arith, ints, product_size c.args.a c.args.b LARGEST_LEVEL LARGEST_SQUARE c.requires.a c.requires.b))
