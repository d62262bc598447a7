-- Tests of whole numbers, and a number that is not below 0 as a natural one.
use Rattle.std.proofs.Common.{◌≡◌, ℕ, ◌∙◌, arith, true, false, ℤ, pos, ◌+ℤ◌, ◌<ℤ◌, ◌≤ℤ◌, int_le}
use Rattle.std.proofs.lemmas.Int.{ints}
use Rattle.acas_frac.proofs.Orders.{by_above}

pub test_true : (a b : ℤ) → int_le a b ≡ true → a ≤ℤ b
test_true a b e = omega (arith, ints)

pub natural : {P : Type 0} (z : ℤ) → pos 0 ≤ℤ z → ((n : ℕ) → z ≡ pos n → P) → P
natural z h f = by_above (pos 0) z h (λ n e. f n (e ∙ plain n))
  where
    plain : (n : ℕ) → pos 0 +ℤ pos n ≡ pos n
    plain n = omega (arith, ints)

pub strictly : (a b : ℤ) → int_le a b ≡ false → b <ℤ a
strictly a b e = omega (arith, ints)
