use Rattle.std.proofs.Common.{◌^◌, arith, w64, to_z, of_z}
use Rattle.std.proofs.lemmas.Int.{ints}
use Rattle.acas_frac.proofs.Bounds.{HasSize, multiple_stays}
use Rattle.acas_tests_numbers.proofs.fractions.multiple.Goals as goal

pub mul_small-requires-clause-within : goal.mul_small-requires-clause-within
mul_small-requires-clause-within c =
    let a : HasSize (10 ^ 12) (10 ^ 6) c.args.a.now = record { some = omega arith; num = omega arith; den = omega arith } in
    multiple_stays c.args.a.now (to_z w64 (of_z w64 c.args.factor)) (10 ^ 12) (10 ^ 6) (10 ^ 9) a (omega (arith, ints)) (omega arith) (omega arith)
