-- A number of the other sign, in 64 bits.
use Rattle.std.proofs.Common.{◌≡◌, neg_ℤ, ℤ, ℕ, ◌≤◌, ◌<◌, ◌^◌, unsigned_abs, to_z, of_z, arith}
use Rattle.std.specs.Int.{w64}
use Rattle.std.proofs.lemmas.Int.{ints}

pub minus-whole : (r x : ℤ) (n : ℕ) → r ≡ neg_ℤ (to_z w64 (of_z w64 x)) → unsigned_abs x ≤ n → n < 2 ^ 63 → (to_z w64 (of_z w64 r) ≡ neg_ℤ x) × (unsigned_abs (neg_ℤ x) ≤ n)
minus-whole r x n e h k = (omega (arith, ints), omega (arith, ints))
