use Rattle.std.proofs.Common.{◌%◌, arith, subst, sym}
use Rattle.std.proofs.lemmas.Nat.Gcd.{IsGcd-from_zero, IsGcd-from_mod}
use Rattle.std.specs.Int.{IsGcd}
use Rattle.acas_frac.proofs.products.gcd.Goals as goal

pub loop-y-preserved : goal.loop-y-preserved
loop-y-preserved c g h = c.loop-y.invariant g (IsGcd-from_mod _ _ g h)

pub returns-then-y-eq0 : goal.returns-then-y-eq0
returns-then-y-eq0 c = c.loop-y.invariant _ (IsGcd-from_zero _ _ (omega arith))

pub returns : goal.returns
returns c =
    let divisor : IsGcd c.loop-y.y (c.loop-y.x % c.loop-y.y) c.from-2.result =
    subst (λ g. IsGcd c.loop-y.y (c.loop-y.x % c.loop-y.y) g) (sym c.from-2.ensures) c.narrow_gcd.ensures in
    c.loop-y.invariant _ (IsGcd-from_mod _ _ _ divisor)
