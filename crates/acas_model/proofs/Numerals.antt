-- Whole numbers without their sign.
use Rattle.std.proofs.Common.{◌≡◌, ℕ, ◌≤◌, ℤ, pos, negsuc, ◌≤ℤ◌, unsigned_abs, refl}
use Rattle.std.proofs.lemmas.Bool.{leb-true, false≢true}
use Rattle.acas_doc.proofs.Holds.{true-int_le}

-- a number from pos least to pos greatest is its own size
pub abs_between : (least greatest : ℕ) (z : ℤ) → pos least ≤ℤ z → z ≤ℤ pos greatest → (z ≡ pos (unsigned_abs z)) × (least ≤ unsigned_abs z) × (unsigned_abs z ≤ greatest)
abs_between least greatest (pos a) low high = (refl, leb-true least a (true-int_le (pos least) (pos a) low), leb-true a greatest (true-int_le (pos a) (pos greatest) high))
abs_between least greatest (negsuc a) low high = absurd (false≢true (true-int_le (pos least) (negsuc a) low))
