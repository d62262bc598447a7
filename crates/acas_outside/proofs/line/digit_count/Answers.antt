use Rattle.std.proofs.Common.{◌≤◌, ◌<◌, ◌^◌, arith, length, ℕ}
use Rattle.std.specs.Fmt.{decimal}
use Rattle.std.proofs.lemmas.Fmt.{length-decimal-le}
use Rattle.itoa.proofs.Decimal.{length_four}
use Rattle.acas_outside.proofs.line.digit_count.Goals as goal

-- a number of 64 bits has at most 20 digits
few : (n : ℕ) → n < 2 ^ 64 → length (decimal n) ≤ 20
few n fits = length-decimal-le 20 n (omega arith) (omega (arith, fits)) fits

pub overflow_add-count : goal.overflow_add-count
overflow_add-count c = omega (arith, c.loop-left.invariant, few c.args.n c.ranges.n.fits)

pub loop-left-preserved : goal.loop-left-preserved
loop-left-preserved c = omega (arith, c.loop-left.invariant, length_four c.loop-left.left c.loop-left-test.true (omega (arith, c.loop-left.auto.left-fits)))

pub overflow_add-result : goal.overflow_add-result
overflow_add-result c = omega (arith, c.loop-left.invariant, c.short_count.ensures, few c.args.n c.ranges.n.fits)
