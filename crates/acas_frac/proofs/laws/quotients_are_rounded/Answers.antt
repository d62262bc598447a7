use Rattle.std.proofs.Common.{pos, ◌*ℤ◌}
use Rattle.acas_frac.specs.Rounding.{down, up}
use Rattle.acas_frac.proofs.SignedProducts.{mul-le_ℤ, le-trans_ℤ}
use Rattle.acas_frac.proofs.RoundingLaws.{down_is_floor, down_greatest, up_is_ceiling, up_least}
use Rattle.acas_frac.proofs.laws.quotients_are_rounded.Goals as goal

pub returns-clause-down : goal.returns-clause-down
returns-clause-down c a m n p =
    (λ h. down_greatest a n m p h, λ h. le-trans_ℤ (pos n *ℤ m) (pos n *ℤ down a (pos n)) a (mul-le_ℤ n m (down a (pos n)) h) (down_is_floor a n p).0)

pub returns-clause-up : goal.returns-clause-up
returns-clause-up c a m n p =
    (λ h. up_least a n m p h, λ h. le-trans_ℤ a (pos n *ℤ up a (pos n)) (pos n *ℤ m) (up_is_ceiling a n p).0 (mul-le_ℤ n (up a (pos n)) m h))
