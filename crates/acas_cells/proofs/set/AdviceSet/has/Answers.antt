-- A set has 16 bits, and none from there on.
use Rattle.std.proofs.Common.{◌≡◌, arith}
use Rattle.std.proofs.lemmas.Bool.Decides.{nat_tests}
use Rattle.std.proofs.lemmas.Nat.Bits.{bit_at_above}
use Rattle.std.specs.Int.{bit_at}
use Rattle.acas_cells.proofs.set.AdviceSet.has.Goals as goal

pub returns-else-from-lt-BITS : goal.returns-else-from-lt-BITS
returns-else-from-lt-BITS c =
    let none : bit_at c.args.self.now.bits c.args.advice ≡ 0 = bit_at_above c.args.self.now.bits 16 c.args.advice (omega arith) (omega (arith, c.from.ensures, c.if-from-lt-BITS.false)) in
    grind (arith, nat_tests)
