-- The signs of products of whole numbers.
use Rattle.std.proofs.Common.{zero, suc, ◌<◌, arith, ℤ, pos, negsuc, ◌*ℤ◌, ◌≤ℤ◌, ◌<ℤ◌}
use Rattle.std.proofs.lemmas.Int.{ints}
use lib.IntN.{*ℤ_comm}
use Rattle.acas_frac.proofs.SignedProducts.{le-from_mul_ℤ, lt-from_mul_ℤ, mul-le_ℤ, mul-lt_ℤ}

pub square_nonneg : (a : ℤ) → pos 0 ≤ℤ (a *ℤ a)
square_nonneg (pos m) = omega (arith, ints)
square_nonneg (negsuc m) = omega (arith, ints)

pub mul_pos_ℤ : (a b : ℤ) → pos 0 <ℤ a → pos 0 <ℤ b → pos 0 <ℤ (a *ℤ b)
mul_pos_ℤ (pos m) b h k = let l : 0 < m = omega (arith, ints) in let r = mul-lt_ℤ m (pos 0) b l k in omega (arith, ints)
mul_pos_ℤ (negsuc m) b h k = absurd (omega (arith, ints))

pub pos_from_mul_ℤ : (a b : ℤ) → pos 0 <ℤ a → pos 0 <ℤ (a *ℤ b) → pos 0 <ℤ b
pos_from_mul_ℤ (pos m) b h k = let l : (pos m *ℤ pos 0) <ℤ (pos m *ℤ b) = omega (arith, ints) in lt-from_mul_ℤ m (pos 0) b l
pos_from_mul_ℤ (negsuc m) b h k = absurd (omega (arith, ints))

-- both are at most 0
pub mul_nonpos : (a b : ℤ) → a ≤ℤ pos 0 → b ≤ℤ pos 0 → pos 0 ≤ℤ (a *ℤ b)
mul_nonpos (pos zero) b h k = omega (arith, ints)
mul_nonpos (pos (suc m)) b h k = absurd (omega (arith, ints))
mul_nonpos (negsuc m) (pos zero) h k = omega (arith, ints)
mul_nonpos (negsuc m) (pos (suc n)) h k = absurd (omega (arith, ints))
mul_nonpos (negsuc m) (negsuc n) h k = omega (arith, ints)

-- the first is at most 0, the second at least 0
pub mul_opposite : (a b : ℤ) → a ≤ℤ pos 0 → pos 0 ≤ℤ b → (a *ℤ b) ≤ℤ pos 0
mul_opposite a (pos n) h k = let r = mul-le_ℤ n a (pos 0) h in rw (*ℤ_comm a (pos n)) (omega (arith, ints))
mul_opposite a (negsuc n) h k = absurd (omega (arith, ints))

-- ---- a common factor

pub mul_le_by : (c a b : ℤ) → pos 0 ≤ℤ c → a ≤ℤ b → (c *ℤ a) ≤ℤ (c *ℤ b)
mul_le_by (pos n) a b p h = mul-le_ℤ n a b h
mul_le_by (negsuc n) a b p h = absurd (omega (arith, ints))

pub mul_le_right : (c a b : ℤ) → pos 0 ≤ℤ c → a ≤ℤ b → (a *ℤ c) ≤ℤ (b *ℤ c)
mul_le_right c a b p h = rw (*ℤ_comm a c, *ℤ_comm b c) (mul_le_by c a b p h)

pub le_from_mul_by : (c a b : ℤ) → pos 0 <ℤ c → (c *ℤ a) ≤ℤ (c *ℤ b) → a ≤ℤ b
le_from_mul_by (pos n) a b p h = let l : 0 < n = omega (arith, ints) in le-from_mul_ℤ n a b l h
le_from_mul_by (negsuc n) a b p h = absurd (omega (arith, ints))

pub below_some : {x : ℤ} → pos 0 <ℤ x → pos 0 ≤ℤ x
below_some h = omega (arith, ints)
