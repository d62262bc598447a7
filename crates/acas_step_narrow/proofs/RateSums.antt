-- Sums of values by the weights of the corners of a cell on both rates.
use Rattle.std.proofs.Common.{◌≡◌, ℕ, ◌+◌, ◌*◌, ◌<◌, ◌≤◌, ℤ, pos, ◌+ℤ◌, ◌*ℤ◌, unsigned_abs, List, length, mul-le-mul_left, ap, sym, ◌∙◌, arith}
use Rattle.std.proofs.lemmas.Int.{ints, unsigned_abs-mul}
use Rattle.acas_frac.proofs.SignedProducts.{mul-add_ℤ}
use Rattle.acas_units.specs.declared.pair.Pair.{Pair}
use Rattle.acas_means.specs.Layer.{AreWithin, value_at}
use Rattle.acas_step.specs.declared.cell.Cell.{Cell}
use Rattle.acas_means.specs.declared.layer.Side.{Side}
use Rattle.acas_step_narrow.proofs.RaisedLaws.{raised-pos}
use Rattle.acas_step_narrow.specs.Raised.{AreRateWeights, AreSummed, along_v0, blended, raised, raised_at, weighted_sum}
use Rattle.acas_step_narrow.specs.declared.raised.RateWeights.{RateWeights}

-- a product by a weight of the values that a cell has room for
product-le : (w v : ℤ) (k by : ℕ) → w ≡ pos k → unsigned_abs v ≤ by → unsigned_abs (w *ℤ v) ≤ k * by
product-le w v k by is small = omega (arith, ints, unsigned_abs-mul w v, ap (λ z. unsigned_abs z * unsigned_abs v) is, mul-le-mul_left k small)

-- how large the four products are, and in all
pub record AreSmallProducts (w : RateWeights) (most : ℕ) (here next row both : ℤ) : Type 0 where
  pub one : unsigned_abs (w.here *ℤ here) ≤ most
  pub two : unsigned_abs (w.here *ℤ here) + unsigned_abs (w.next *ℤ next) ≤ most
  pub three : unsigned_abs (w.here *ℤ here) + unsigned_abs (w.next *ℤ next) + unsigned_abs (w.row *ℤ row) ≤ most
  pub all : unsigned_abs (w.here *ℤ here) + unsigned_abs (w.next *ℤ next) + unsigned_abs (w.row *ℤ row) + unsigned_abs (w.both *ℤ both) ≤ most

weights-all : (l0 h0 l1 h1 by : ℕ) → (l0 * l1) * by + (l0 * h1) * by + (h0 * l1) * by + (h0 * h1) * by ≡ by * (l1 + h1) * (l0 + h0)
weights-all l0 h0 l1 h1 by = omega arith

pub products-small : (w : RateWeights) (by : ℕ) (here next row both : ℤ) → AreSummed w by here next row both → AreSmallProducts w w.most here next row both
products-small w by here next row both are =
    let t : Cell = are.cell in
    let is = are.weights in
    let p = product-le w.here here (t.v0.lower * t.v1.lower) by is.here are.one in
    let q = product-le w.next next (t.v0.lower * t.v1.upper) by is.next are.two in
    let r = product-le w.row row (t.v0.upper * t.v1.lower) by is.row are.three in
    let s = product-le w.both both (t.v0.upper * t.v1.upper) by is.both are.four in
    let whole = weights-all t.v0.lower t.v0.upper t.v1.lower t.v1.upper by in
    record {
      one = omega (arith, p, q, r, s, whole, is.most);
      two = omega (arith, p, q, r, s, whole, is.most);
      three = omega (arith, p, q, r, s, whole, is.most);
      all = omega (arith, p, q, r, s, whole, is.most);
    }

-- so is their sum
pub weighted_sum-small : (w : RateWeights) (by : ℕ) (here next row both : ℤ) → AreSummed w by here next row both → unsigned_abs (weighted_sum w here next row both) ≤ w.most
weighted_sum-small w by here next row both are = omega (arith, ints, (products-small w by here next row both are).all)

-- a product of a weight and a raised value
product-raised : (w v : ℤ) (k by n : ℕ) → w ≡ pos k → pos n ≡ v +ℤ pos by → pos (k * n) ≡ w *ℤ v +ℤ pos (k * by)
product-raised w v k by n is raises = ap (λ z. pos k *ℤ z) raises ∙ mul-add_ℤ (pos k) v (pos by) ∙ ap (λ z. z *ℤ v +ℤ pos (k * by)) (sym is)

-- the sum of the values, raised by as much as they are in all, is the blend of the raised values
pub weighted_sum-raised : (t : Cell) (by : ℕ) (w : RateWeights) (z1 z2 z3 z4 : ℤ) (n1 n2 n3 n4 : ℕ) → AreRateWeights t by w →
    pos n1 ≡ z1 +ℤ pos by → pos n2 ≡ z2 +ℤ pos by → pos n3 ≡ z3 +ℤ pos by → pos n4 ≡ z4 +ℤ pos by →
    weighted_sum w z1 z2 z3 z4 +ℤ pos w.most ≡ pos (blended t.v0 (blended t.v1 n1 n2) (blended t.v1 n3 n4))
weighted_sum-raised t by w z1 z2 z3 z4 n1 n2 n3 n4 is a b c d =
    let p = product-raised w.here z1 (t.v0.lower * t.v1.lower) by n1 is.here a in
    let q = product-raised w.next z2 (t.v0.lower * t.v1.upper) by n2 is.next b in
    let r = product-raised w.row z3 (t.v0.upper * t.v1.lower) by n3 is.row c in
    let s = product-raised w.both z4 (t.v0.upper * t.v1.upper) by n4 is.both d in
    omega (arith, ints, p, q, r, s, weights-all t.v0.lower t.v0.upper t.v1.lower t.v1.upper by, is.most)

-- ---- of the values of a layer at four places

-- the value at a place is no further from 0 than those of the layer
value-small : (side : Side) (pairs : List Pair) (by place : ℕ) (z : ℤ) → AreWithin by side pairs → place < length pairs → z ≡ value_at side pairs place → unsigned_abs z ≤ by
value-small side pairs by place z within here is = omega (arith, within.bounded place here, ap unsigned_abs is)

value-raised : (side : Side) (pairs : List Pair) (by place : ℕ) (z : ℤ) → AreWithin by side pairs → place < length pairs → z ≡ value_at side pairs place → pos (raised_at by side pairs place) ≡ z +ℤ pos by
value-raised side pairs by place z within here is = raised-pos by (value_at side pairs place) (within.bounded place here) ∙ ap (λ y. y +ℤ pos by) (sym is)

pub are_summed : (t : Cell) (w : RateWeights) (side : Side) (pairs : List Pair) (by at row : ℕ) (z1 z2 z3 z4 : ℤ) → AreRateWeights t by w → AreWithin by side pairs → at + row + 1 < length pairs →
    z1 ≡ value_at side pairs at → z2 ≡ value_at side pairs (at + 1) → z3 ≡ value_at side pairs (at + row) → z4 ≡ value_at side pairs (at + row + 1) → AreSummed w by z1 z2 z3 z4
are_summed t w side pairs by at row z1 z2 z3 z4 is within place a b c d = record {
  cell = t;
  weights = is;
  one = value-small side pairs by at z1 within (omega (arith, place)) a;
  two = value-small side pairs by (at + 1) z2 within (omega (arith, place)) b;
  three = value-small side pairs by (at + row) z3 within (omega (arith, place)) c;
  four = value-small side pairs by (at + row + 1) z4 within place d;
}

-- their sum, raised, is the blend of the raised values
pub weighted_sum-along_v0 : (t : Cell) (w : RateWeights) (side : Side) (pairs : List Pair) (by at row n : ℕ) (z1 z2 z3 z4 : ℤ) → AreRateWeights t by w → AreWithin by side pairs → at + row + 1 < length pairs →
    z1 ≡ value_at side pairs at → z2 ≡ value_at side pairs (at + 1) → z3 ≡ value_at side pairs (at + row) → z4 ≡ value_at side pairs (at + row + 1) →
    n ≡ raised w.most (weighted_sum w z1 z2 z3 z4) → n ≡ along_v0 t row (raised_at by side pairs) at
weighted_sum-along_v0 t w side pairs by at row n z1 z2 z3 z4 is within place a b c d e =
    let small = weighted_sum-small w by z1 z2 z3 z4 (are_summed t w side pairs by at row z1 z2 z3 z4 is within place a b c d) in
    let sum = weighted_sum-raised t by w z1 z2 z3 z4 (raised_at by side pairs at) (raised_at by side pairs (at + 1)) (raised_at by side pairs (at + row)) (raised_at by side pairs (at + row + 1)) is
    (value-raised side pairs by at z1 within (omega (arith, place)) a) (value-raised side pairs by (at + 1) z2 within (omega (arith, place)) b)
    (value-raised side pairs by (at + row) z3 within (omega (arith, place)) c) (value-raised side pairs by (at + row + 1) z4 within place d) in
    omega (arith, ints, e, raised-pos w.most (weighted_sum w z1 z2 z3 z4) small, sum)

-- and their sum is no further from 0 than that by which it is raised
pub weighted_sum-within : (t : Cell) (w : RateWeights) (side : Side) (pairs : List Pair) (by at row : ℕ) (s z1 z2 z3 z4 : ℤ) → AreRateWeights t by w → AreWithin by side pairs → at + row + 1 < length pairs →
    z1 ≡ value_at side pairs at → z2 ≡ value_at side pairs (at + 1) → z3 ≡ value_at side pairs (at + row) → z4 ≡ value_at side pairs (at + row + 1) →
    s ≡ weighted_sum w z1 z2 z3 z4 → unsigned_abs s ≤ w.most
weighted_sum-within t w side pairs by at row s z1 z2 z3 z4 is within place a b c d e =
    omega (arith, ap unsigned_abs e, weighted_sum-small w by z1 z2 z3 z4 (are_summed t w side pairs by at row z1 z2 z3 z4 is within place a b c d))
