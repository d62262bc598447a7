-- One more point in the sums of raised values, and their means.
use Rattle.std.proofs.Common.{◌≡◌, ℕ, suc, ◌+◌, ◌*◌, ◌^◌, ◌<◌, ◌≤◌, ℤ, pos, ◌+ℤ◌, ◌*ℤ◌, List, length, mul-le-mul_left, ap, sym, ◌∙◌, arith}
use Rattle.std.proofs.lemmas.Int.{ints}
use Rattle.std.proofs.lemmas.List.{take_all}
use Rattle.std.proofs.lemmas.List.Sums.{sum_by_more, sum_by_more_le}
use Rattle.std.specs.List.{sum_by}
use Rattle.acas_spec.specs.Limits.{IsModel}
use Rattle.acas_spec.specs.Model.{GridData, ModelData, total_weight, vertices, weight_of}
use Rattle.acas_spec.specs.declared.parts.SigmaPoint.{SigmaPoint}
use Rattle.acas_spec.specs.declared.place.Point.{Point}
use Rattle.acas_spec.specs.declared.place.Vertex.{Vertex}
use Rattle.acas_frac.specs.Rounding.{IsRounding, down, up}
use Rattle.acas_frac.proofs.SignedProducts.{mul-add_ℤ}
use Rattle.acas_grid.specs.Grid.{vertex_number}
use Rattle.acas_units.specs.declared.pair.Pair.{Pair}
use Rattle.acas_process.specs.Values.{interpolated}
use Rattle.acas_process.specs.Step.{grid_product, moved, over_vertices, share, sigma_weight}
use Rattle.acas_process.proofs.MeanLaws.{grid_product_pos}
use Rattle.acas_process.specs.Sums.{sum_below}
use Rattle.acas_step.specs.Ends.{IsRound, weight_of_cell}
use Rattle.acas_means.specs.Layer.{layer_values, value_at}
use Rattle.acas_means.specs.Means.{AreMeansAt}
use Rattle.acas_step_narrow.specs.Narrow.{AreRaisedSums, IsRaisedPoint, point_sum, sum_over, weights_below}
use Rattle.acas_step_narrow.specs.Raised.{AreRaisedWithin}
use Rattle.acas_step.specs.declared.cell.Cell.{Cell}
use Rattle.acas_means.specs.declared.layer.Side.{Side}
use Rattle.acas_means.specs.declared.layer.Side.TheVariants.{Upper, Lower}
use Rattle.acas_step_narrow.specs.declared.raised.Raised.{Raised}
use Rattle.acas_step.proofs.CornerLaws.{ends_interpolate, weight_of_cell-pos}
use Rattle.acas_step.proofs.Quotients.{quotient_is}

-- the weights of one point more
weights_more : (m : ModelData) (q : ℕ) → q < length m.sigmas → weights_below m (q + 1) ≡ weights_below m q + sigma_weight m q
weights_more m q here = sum_by_more weight_of m.sigmas q (record { weight = pos 0; own = pos 0; intruder = pos 0 }) here

weights_most : (m : ModelData) (q : ℕ) → q < length m.sigmas → weights_below m q + sigma_weight m q ≤ total_weight m
weights_most m q here = sum_by_more_le weight_of m.sigmas q (record { weight = pos 0; own = pos 0; intruder = pos 0 }) here

-- a raised value times its weight, and the sum so far
pub raised_step : (m : ModelData) (f : ℕ → ℤ) (by q w sum point next : ℕ) → q < length m.sigmas → w ≡ sigma_weight m q → pos sum ≡ sum_below q (λ q. pos (sigma_weight m q) *ℤ f q) +ℤ pos (by * weights_below m q) →
    pos point ≡ f q +ℤ pos by → next ≡ sum + w * point → pos next ≡ sum_below (q + 1) (λ q. pos (sigma_weight m q) *ℤ f q) +ℤ pos (by * weights_below m (q + 1))
raised_step m f by q w sum point next here weight so at is =
    let one_more : q + 1 ≡ suc q = omega arith in
    let v : ℕ = sigma_weight m q in
    let terms : ℕ → ℤ = λ q. pos (sigma_weight m q) *ℤ f q in
    let term : pos (v * point) ≡ pos v *ℤ f q +ℤ pos (v * by) = ap (λ z. pos v *ℤ z) at ∙ mul-add_ℤ (pos v) (f q) (pos by) in
    let more : by * weights_below m (q + 1) ≡ by * weights_below m q + v * by = ap (λ (n : ℕ). by * n) (weights_more m q here) ∙ omega arith in
    let scaled : w * point ≡ v * point = ap (λ (n : ℕ). n * point) weight in
    let last : sum_below (q + 1) terms ≡ sum_below q terms +ℤ pos v *ℤ f q = ap (λ (n : ℕ). sum_below n terms) one_more in
    omega (arith, ints, is, so, term, more, scaled, last)

-- and how large it is
pub raised_more : (m : ModelData) (most q w sum point next : ℕ) → q < length m.sigmas → w ≡ sigma_weight m q → sum ≤ most * weights_below m q → point ≤ most → next ≡ sum + w * point → next ≤ most * weights_below m (q + 1)
raised_more m most q w sum point next here weight so at is =
    let v : ℕ = sigma_weight m q in
    let more : most * weights_below m (q + 1) ≡ most * weights_below m q + v * most = ap (λ (n : ℕ). most * n) (weights_more m q here) ∙ omega arith in
    let scaled : w * point ≡ v * point = ap (λ (n : ℕ). n * point) weight in
    omega (arith, is, so, more, scaled, mul-le-mul_left v at)

pub raised_fits : (m : ModelData) (by q w sum point : ℕ) → q < length m.sigmas → w ≡ sigma_weight m q → sum ≤ 2 * by * weights_below m q → point ≤ 2 * by → total_weight m * (2 * by + 1) < 2 ^ 63 → sum + w * point < 2 ^ 64
raised_fits m by q w sum point here weight so at room =
    let v : ℕ = sigma_weight m q in
    let scaled : w * point ≡ v * point = ap (λ (n : ℕ). n * point) weight in
    let whole : (2 * by) * (weights_below m q + v) ≤ (2 * by) * total_weight m = mul-le-mul_left (2 * by) (weights_most m q here) in
    omega (arith, so, scaled, whole, room, mul-le-mul_left v at)

-- the same of both sides
pub within_more : (m : ModelData) (by q w : ℕ) (sums point next : Raised) → q < length m.sigmas → w ≡ sigma_weight m q → AreRaisedWithin (2 * by * weights_below m q) sums → AreRaisedWithin (2 * by) point →
    next.upper ≡ sums.upper + w * point.upper → next.lower ≡ sums.lower + w * point.lower → AreRaisedWithin (2 * by * weights_below m (q + 1)) next
within_more m by q w sums point next here weight so at upper lower = record {
  upper = raised_more m (2 * by) q w sums.upper point.upper next.upper here weight so.upper at.upper upper;
  lower = raised_more m (2 * by) q w sums.lower point.lower next.lower here weight so.lower at.lower lower;
}

pub sums_more : (m : ModelData) (below : List Pair) (by : ℕ) (x : Vertex) (a q w : ℕ) (sums point next : Raised) → q < length m.sigmas → w ≡ sigma_weight m q → AreRaisedSums m below by x a q sums → IsRaisedPoint m below by a (moved m x a q) point →
    next.upper ≡ sums.upper + w * point.upper → next.lower ≡ sums.lower + w * point.lower → AreRaisedSums m below by x a (q + 1) next
sums_more m below by x a q w sums point next here weight so is upper lower = record {
  upper = raised_step m (λ q. interpolated up m (layer_values Upper m.grid below) a (moved m x a q)) by q w sums.upper point.upper next.upper here weight so.upper is.upper upper;
  lower = raised_step m (λ q. interpolated down m (layer_values Lower m.grid below) a (moved m x a q)) by q w sums.lower point.lower next.lower here weight so.lower is.lower lower;
  within = within_more m by q w sums point next here weight so.within is.within upper lower;
}

-- a sum over the corners of a point's cell, over the cell's weight, rounded
pub interpolated_is : (round : ℤ → ℤ → ℤ) → IsRounding round → (m : ModelData) (s : Point) (t : Cell) (a : ℕ) (side : Side) (below : List Pair) → IsModel m → IsRound m.grid s t →
    round (sum_over m.grid t (a * vertices m.grid) side below) (pos (weight_of_cell t)) ≡ interpolated round m (layer_values side m.grid below) a s
interpolated_is round way m s t a side below valid is =
    let g : GridData = m.grid in
    let v : ℕ → ℤ = λ n. value_at side below (a * vertices g + n) in
    quotient_is round way (grid_product g) (pos (weight_of_cell t)) (sum_over g t (a * vertices g) side below)
    (over_vertices g (λ y. pos (share g s y) *ℤ v (vertex_number g y)))
    (grid_product_pos g valid.grid) (omega (arith, ints, weight_of_cell-pos g s t valid.grid is)) (ends_interpolate g s t v valid.grid is)

pub whole_weight : (m : ModelData) → weights_below m (length m.sigmas) ≡ total_weight m
whole_weight m = ap (λ (sigmas : List SigmaPoint). sum_by weight_of sigmas) (take_all (length m.sigmas) m.sigmas (omega arith))

-- the sums over all points, by the whole weight, are the means
pub means_of_all : (m : ModelData) (below : List Pair) (by total : ℕ) (x : Vertex) (a : ℕ) (sums : Raised) (pair : Pair) → total ≡ total_weight m → AreRaisedSums m below by x a (length m.sigmas) sums
    → ((z : ℤ) → pos sums.upper ≡ z +ℤ pos (by * total) → pair.upper ≡ up z (pos total)) → ((z : ℤ) → pos sums.lower ≡ z +ℤ pos (by * total) → pair.lower ≡ down z (pos total))
    → AreMeansAt m below x a pair
means_of_all m below by total x a sums pair whole are above under =
    let weight : weights_below m (length m.sigmas) ≡ total = whole_weight m ∙ sym whole in
    let higher : ℤ = point_sum up m (layer_values Upper m.grid below) x a (length m.sigmas) in
    let lower : ℤ = point_sum down m (layer_values Lower m.grid below) x a (length m.sigmas) in
    record {
      upper = above higher (are.upper ∙ ap (λ (w : ℕ). higher +ℤ pos (by * w)) weight) ∙ ap (λ (w : ℕ). up higher (pos w)) whole;
      lower = under lower (are.lower ∙ ap (λ (w : ℕ). lower +ℤ pos (by * w)) weight) ∙ ap (λ (w : ℕ). down lower (pos w)) whole;
    }
