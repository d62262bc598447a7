-- The order of ℤ under products.
use Rattle.std.proofs.Common.{◌≡◌, ℕ, ◌+◌, ◌-◌, ◌≤◌, ◌⊎◌, inl, inr, ⊎_elim, arith, ℤ, pos, negsuc, ◌+ℤ◌, ◌-ℤ◌, ◌*ℤ◌, ◌≤ℤ◌, ◌<ℤ◌, neg_ℤ, unsigned_abs}
use Rattle.std.proofs.lemmas.Int.{ints}
use Rattle.std.proofs.lemmas.Bool.{cases_lt}
use borrow.Author.Differences.{up, down}

pub le_eq_ℤ : (a b : ℤ) → a ≡ b → a ≤ℤ b
le_eq_ℤ a b e = omega (arith, ints)

pub le_of_lt_ℤ : (a b : ℤ) → a <ℤ b → a ≤ℤ b
le_of_lt_ℤ a b h = omega (arith, ints)

pub neg-lt_ℤ : (a b : ℤ) → a <ℤ b → neg_ℤ b <ℤ neg_ℤ a
neg-lt_ℤ a b h = omega (arith, ints)

pub mul_nonneg : (a b : ℤ) → pos 0 ≤ℤ a → pos 0 ≤ℤ b → pos 0 ≤ℤ (a *ℤ b)
mul_nonneg (pos m) (pos n) h k = omega (arith, ints)
mul_nonneg (pos m) (negsuc n) h k = omega (arith, ints)
mul_nonneg (negsuc m) b h k = omega (arith, ints)

-- ---- a number is a natural above or below another: the natural is a variable of the rest of the proof

pub by_above : {P : Type 0} (k v : ℤ) → k ≤ℤ v → ((n : ℕ) → v ≡ k +ℤ pos n → P) → P
by_above k v h f = f (up v + down k - (down v + up k)) (omega (arith, ints))

pub by_below : {P : Type 0} (k v : ℤ) → v ≤ℤ k → ((n : ℕ) → v ≡ k -ℤ pos n → P) → P
by_below k v h f = f (up k + down v - (down k + up v)) (omega (arith, ints))

pub cases_lt_ℤ : (a b : ℤ) → (a <ℤ b) ⊎ (b ≤ℤ a)
cases_lt_ℤ a b = ⊎_elim (λ l. inl (omega (arith, ints))) (λ l. inr (omega (arith, ints))) (cases_lt (up a + down b) (up b + down a))

-- the order turns with the sign
pub turned_le : {x y x' y' : ℤ} → x ≡ neg_ℤ x' → y ≡ neg_ℤ y' → x ≤ℤ y → y' ≤ℤ x'
turned_le e f h = omega (arith, ints, e, f, h)

-- ---- the size of a number, from both sides

pub unsigned_abs-le : (z : ℤ) (n : ℕ) → neg_ℤ (pos n) ≤ℤ z → z ≤ℤ pos n → unsigned_abs z ≤ n
unsigned_abs-le (pos k) n h i = omega (arith, ints)
unsigned_abs-le (negsuc k) n h i = omega (arith, ints)

pub unsigned_abs-low : (z : ℤ) (n : ℕ) → unsigned_abs z ≤ n → neg_ℤ (pos n) ≤ℤ z
unsigned_abs-low (pos k) n h = omega (arith, ints)
unsigned_abs-low (negsuc k) n h = omega (arith, ints)

pub unsigned_abs-high : (z : ℤ) (n : ℕ) → unsigned_abs z ≤ n → z ≤ℤ pos n
unsigned_abs-high (pos k) n h = omega (arith, ints)
unsigned_abs-high (negsuc k) n h = omega (arith, ints)
