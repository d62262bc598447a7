use Rattle.std.proofs.Common.{◌^◌, arith}
use Rattle.acas_frac.proofs.Bounds.{HasSize, product_size, product_stays}
use Rattle.acas_tests_numbers.proofs.fractions.product.Goals as goal

pub mul-requires-clause-within : goal.mul-requires-clause-within
mul-requires-clause-within c =
    let a : HasSize (10 ^ 12) (10 ^ 6) c.args.a.now = record { some = omega arith; num = omega arith; den = omega arith } in
    let b : HasSize (10 ^ 12) (10 ^ 6) c.args.b.now = record { some = omega arith; num = omega arith; den = omega arith } in
    product_stays c.args.a.now c.args.b.now (10 ^ 12) (10 ^ 6) (10 ^ 12) (10 ^ 6) a b (omega arith) (omega arith)

pub mul-requires-clause-num_small : goal.mul-requires-clause-num_small
mul-requires-clause-num_small c = omega (arith, product_size c.args.a.now.num c.args.b.now.num (10 ^ 12) (10 ^ 12) (omega arith) (omega arith))
