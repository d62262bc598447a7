use Rattle.std.proofs.Common.{◌^◌, arith}
use Rattle.acas_frac.proofs.Bounds.{HasSize, sum_stays}
use Rattle.acas_tests_numbers.proofs.fractions.sum.Goals as goal

pub add-requires : goal.add-requires
add-requires c =
    let a : HasSize (10 ^ 12) (10 ^ 6) c.args.a.now = record { some = omega arith; num = omega arith; den = omega arith } in
    let b : HasSize (10 ^ 12) (10 ^ 6) c.args.b.now = record { some = omega arith; num = omega arith; den = omega arith } in
    sum_stays c.args.a.now c.args.b.now (10 ^ 12) (10 ^ 6) (10 ^ 12) (10 ^ 6) a b (omega arith) (omega arith)
