-- Products of bounded numbers fit their types.
use Rattle.std.proofs.Common.{◌≡◌, ℕ, ◌*◌, ◌≤◌, arith, ℤ, pos, ◌-ℤ◌, ◌*ℤ◌, unsigned_abs, to_z, of_z}
use Rattle.std.specs.Int.{w64, w128}
use Rattle.std.proofs.lemmas.Int.{ints}
use Rattle.acas_frac.proofs.Bounds.{product_size}

pub whole64 : (z : ℤ) → unsigned_abs z ≤ 9000000000000000000 → to_z w64 (of_z w64 z) ≡ z
whole64 z h = omega (arith, ints)

pub whole128 : (z : ℤ) → unsigned_abs z ≤ 100000000000000000000000000000000000000 → to_z w128 (of_z w128 z) ≡ z
whole128 z h = omega (arith, ints)

pub product128 : (a b : ℤ) (m n : ℕ) → unsigned_abs a ≤ m → unsigned_abs b ≤ n → m ≤ 100000000000000000000000000000000000000 → n ≤ 100000000000000000000000000000000000000 → m * n ≤ 100000000000000000000000000000000000000 →
    to_z w128 (of_z w128 (to_z w128 (of_z w128 a) *ℤ to_z w128 (of_z w128 b))) ≡ a *ℤ b
product128 a b m n h k hm hn r =
    let s = product_size a b m n h k in
    rw (whole128 a (omega arith), whole128 b (omega arith)) (whole128 (a *ℤ b) (omega arith))

pub difference128 : (a b : ℤ) → unsigned_abs a ≤ 10000000000000000000000000000000000000 → unsigned_abs b ≤ 10000000000000000000000000000000000000 →
    to_z w128 (of_z w128 (to_z w128 (of_z w128 a) -ℤ to_z w128 (of_z w128 b))) ≡ a -ℤ b
difference128 a b h k = omega (arith, ints)

-- a part of a fraction fits
pub num_fits : (z n : ℤ) → z ≡ n → unsigned_abs n ≤ 1000000000000000000000000 → to_z w128 (of_z w128 z) ≡ n
num_fits z n e h = rw (← e) (whole128 z (rw e (omega arith)))

pub den_fits : (z : ℤ) (d : ℕ) → z ≡ pos d → d ≤ 10000000000000 → to_z w128 (of_z w128 z) ≡ pos d
den_fits z d e h = rw (← e) (whole128 z (rw e (omega arith)))

-- ---- products and differences of parts that need not be in lowest terms

pub product_wide : (a z : ℤ) (n m k : ℕ) → z ≡ pos n → unsigned_abs a ≤ m → n ≤ k → m ≤ 100000000000000000000000000000000000000 → k ≤ 100000000000000000000000000000000000000 → m * k ≤ 100000000000000000000000000000000000000 →
    to_z w128 (of_z w128 (to_z w128 (of_z w128 a) *ℤ to_z w128 (of_z w128 z))) ≡ a *ℤ pos n
product_wide a z n m k e h j hm hk r = rw e (product128 a (pos n) m k h j hm hk r)

pub difference_wide : (a b : ℤ) → unsigned_abs a ≤ 30000000000000000000000000000000000000 → unsigned_abs b ≤ 1000000000000000000000000000000000 →
    to_z w128 (of_z w128 (to_z w128 (of_z w128 a) -ℤ to_z w128 (of_z w128 b))) ≡ a -ℤ b
difference_wide a b h k = omega (arith, ints)
