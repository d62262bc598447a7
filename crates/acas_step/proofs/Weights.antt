-- Bounds of a value times a weight that is not negative.
use Rattle.std.proofs.Common.{ℤ, pos, negsuc, ◌*ℤ◌, ◌≤ℤ◌, w64, arith}
use Rattle.std.proofs.lemmas.Int.{ints, fits_signed_mul}
use Rattle.acas_frac.proofs.SignedProducts.{mul-le_ℤ, mul_comm_ℤ}
use Rattle.acas_step.specs.Sizes.{greatest_weight}
use mir.Syntax.{w128}
use mir.Val.{SFits}

pub weight_high : (w v top : ℤ) → pos 0 ≤ℤ w → v ≤ℤ top → (w *ℤ v) ≤ℤ (top *ℤ w)
weight_high (pos n) v top p h = omega (arith, ints, mul-le_ℤ n v top h, mul_comm_ℤ (pos n) top)
weight_high (negsuc n) v top p h = absurd (omega (arith, ints))

pub weight_low : (w v least : ℤ) → pos 0 ≤ℤ w → least ≤ℤ v → (least *ℤ w) ≤ℤ (w *ℤ v)
weight_low (pos n) v least p h = omega (arith, ints, mul-le_ℤ n least v h, mul_comm_ℤ (pos n) least)
weight_low (negsuc n) v least p h = absurd (omega (arith, ints))

-- the weight of a corner times a value of 64 bits fits 128 bits
pub weighted_fits : (w v : ℤ) → pos 0 ≤ℤ w → w ≤ℤ pos greatest_weight → SFits w64 v → SFits w128 (w *ℤ v)
weighted_fits w v p h f = fits_signed_mul w128 w v greatest_weight 9223372036854775808 (omega (arith, ints)) (omega (arith, ints)) (omega arith)
