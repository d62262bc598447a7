-- Sums and products of fractions with small parts are within the bounds.
use Rattle.std.proofs.Common.{ℕ, ◌+◌, ◌*◌, ◌^◌, ◌<◌, ◌≤◌, ℤ, pos, ◌*ℤ◌, unsigned_abs, mul-pos, arith}
use Rattle.std.proofs.lemmas.Int.{ints, unsigned_abs-mul}
use Rattle.std.proofs.lemmas.Nat.{mul-le}
use Rattle.acas_frac.specs.Fraction.{Fraction, StaysWithinBounds, difference_of, multiple_of, product_of, sum_of}
use Rattle.acas_frac.proofs.Lowest.{small_reduces}

-- the numerator is at most m in size, and the denominator is above 0 and at most d
pub record HasSize (m d : ℕ) (f : Fraction) : Type 0 where
  pub some : 0 < f.den
  pub num : unsigned_abs f.num ≤ m
  pub den : f.den ≤ d

pub product_size : (a b : ℤ) (m n : ℕ) → unsigned_abs a ≤ m → unsigned_abs b ≤ n → unsigned_abs (a *ℤ b) ≤ m * n
product_size a b m n p q = rw (unsigned_abs-mul a b) (mul-le (unsigned_abs a) (unsigned_abs b) m n p q)

module _ (f g : Fraction) (m d n e : ℕ) (small : HasSize m d f) (other : HasSize n e g) where
  left : unsigned_abs (f.num *ℤ pos g.den) ≤ m * e
  left = product_size f.num (pos g.den) m e small.num other.den

  right : unsigned_abs (g.num *ℤ pos f.den) ≤ n * d
  right = product_size g.num (pos f.den) n d other.num small.den

  dens : f.den * g.den ≤ d * e
  dens = mul-le f.den g.den d e small.den other.den

  pub sum_stays : m * e + n * d ≤ 10 ^ 24 → d * e ≤ 10 ^ 13 → StaysWithinBounds (sum_of f g)
  sum_stays p q =
      let l = left in
      let r = right in
      let b = dens in
      small_reduces _ _ (mul-pos small.some other.some) (omega (arith, ints)) (omega arith)

  pub difference_stays : m * e + n * d ≤ 10 ^ 24 → d * e ≤ 10 ^ 13 → StaysWithinBounds (difference_of f g)
  difference_stays p q =
      let l = left in
      let r = right in
      let b = dens in
      small_reduces _ _ (mul-pos small.some other.some) (omega (arith, ints)) (omega arith)

  pub product_stays : m * n ≤ 10 ^ 24 → d * e ≤ 10 ^ 13 → StaysWithinBounds (product_of f g)
  product_stays p q =
      let l = product_size f.num g.num m n small.num other.num in
      let b = dens in
      small_reduces _ _ (mul-pos small.some other.some) (omega arith) (omega arith)

pub multiple_stays : (f : Fraction) (n : ℤ) (m d k : ℕ) → HasSize m d f → unsigned_abs n ≤ k → m * k ≤ 10 ^ 24 → d ≤ 10 ^ 13 → StaysWithinBounds (multiple_of f n)
multiple_stays f n m d k small h p q =
    let l = product_size f.num n m k small.num h in
    let b = small.den in
    small_reduces _ _ small.some (omega arith) (omega arith)
