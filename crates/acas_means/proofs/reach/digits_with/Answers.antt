use Rattle.std.proofs.Common.{◌≡◌, unsigned_abs, bit_or, rules, w64, arith}
use Rattle.std.proofs.lemmas.Int.{to_z-of_z}
use Rattle.std.proofs.lemmas.Nat.{le_or_l, le_or_r}
use Rattle.acas_means.proofs.reach.digits_with.Goals as goal
use mir.Val.{SFits}

pub returns-clause-digits : goal.returns-clause-digits
returns-clause-digits c =
    let upper = c.unsigned_abs.result in
    omega (arith, le_or_l c.args.digits upper, le_or_l (bit_or c.args.digits upper) c.unsigned_abs-2.result)

pub returns-clause-upper : goal.returns-clause-upper
returns-clause-upper c =
    let upper = c.unsigned_abs.result in
    let fits : SFits w64 c.args.pair.upper = search rules in
    let is : upper ≡ unsigned_abs c.args.pair.upper = simp to_z-of_z at c.unsigned_abs.ensures.value in
    omega (arith, is, le_or_r c.args.digits upper, le_or_l (bit_or c.args.digits upper) c.unsigned_abs-2.result)

pub returns-clause-lower : goal.returns-clause-lower
returns-clause-lower c =
    let lower = c.unsigned_abs-2.result in
    let fits : SFits w64 c.args.pair.lower = search rules in
    let is : lower ≡ unsigned_abs c.args.pair.lower = simp to_z-of_z at c.unsigned_abs-2.ensures.value in
    omega (arith, is, le_or_r (bit_or c.args.digits c.unsigned_abs.result) lower)
