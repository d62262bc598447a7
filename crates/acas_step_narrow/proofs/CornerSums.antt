-- The raised values at the corners of a cell, summed by their weights one corner after another, and quotients of such sums.
use Rattle.std.proofs.Common.{◌≡◌, ℕ, suc, ◌+◌, ◌-◌, ◌*◌, ◌/◌, ◌^◌, ◌<◌, ◌≤◌, ℤ, pos, ◌+ℤ◌, ◌-ℤ◌, unsigned_abs, List, length, mul-le-mul_right, ap, sym, ◌∙◌, arith}
use Rattle.std.proofs.lemmas.Int.{ints}
use Rattle.std.proofs.lemmas.List.Sums.{sum_by_more_le}
use Rattle.std.proofs.lemmas.Nat.{div_below}
use Rattle.std.proofs.Math.Nat.{mul-le-mul}
use Rattle.acas_spec.specs.Model.{GridData, ModelData, total_weight, vertices, weight_of}
use Rattle.acas_spec.specs.declared.place.Vertex.{Vertex}
use Rattle.acas_grid.specs.Grid.{IsVertex, vertex_number}
use Rattle.acas_grid.proofs.Vertices.{vertices-one_to_one}
use Rattle.acas_process.specs.Step.{sigma_weight}
use Rattle.acas_units.specs.declared.limits.TheConstants.{GREATEST_TOTAL_WEIGHT}
use Rattle.acas_units.specs.declared.pair.Pair.{Pair}
use Rattle.acas_step.specs.Ends.{FitsGrid, weight_of_cell}
use Rattle.acas_means.specs.Layer.{AreWithin, value_at}
use Rattle.acas_step.specs.Sizes.{greatest_weight}
use Rattle.acas_step.specs.declared.cell.Cell.{Cell}
use Rattle.acas_means.specs.declared.layer.Side.{Side}
use Rattle.acas_step_narrow.specs.declared.wide_sums.TheConstants.{WIDE_SIZE}
use Rattle.acas_step_narrow.specs.Narrow.{sum_over, weights_below}
use Rattle.acas_step_narrow.specs.Raised.{along_h, along_v0, along_v1, raised, raised_at, width}
use Rattle.acas_step_narrow.proofs.RaisedLaws.{blended-le, raised-pos}
use Rattle.acas_step_narrow.proofs.RaisedSums.{AreRaised, over_ends-raised}

-- ---- the four corners at one altitude, one after another

pub altitude_chain : (t : Cell) (row n h : ℕ) (f : ℕ → ℕ) (w1 w2 w3 w4 s s1 s2 s3 s4 : ℕ) →
    w1 ≡ h * t.v0.lower * t.v1.lower → w2 ≡ h * t.v0.lower * t.v1.upper → w3 ≡ h * t.v0.upper * t.v1.lower → w4 ≡ h * t.v0.upper * t.v1.upper →
    s1 ≡ s + w1 * f n → s2 ≡ s1 + w2 * f (n + 1) → s3 ≡ s2 + w3 * f (n + row) → s4 ≡ s3 + w4 * f (n + row + 1) →
    s4 ≡ s + h * along_v0 t row f n
altitude_chain t row n h f w1 w2 w3 w4 s s1 s2 s3 s4 p1 p2 p3 p4 q1 q2 q3 q4 =
    omega (
      arith,
      q1,
      q2,
      q3,
      q4,
      ap (λ (w : ℕ). w * f n) p1,
      ap (λ (w : ℕ). w * f (n + 1)) p2,
      ap (λ (w : ℕ). w * f (n + row)) p3,
      ap (λ (w : ℕ). w * f (n + row + 1)) p4,
    )

-- ---- how large their sum is

raised-le : (by : ℕ) (z : ℤ) → unsigned_abs z ≤ by → raised by z ≤ 2 * by
raised-le by z small = omega (arith, ints, raised-pos by z small)

along_v1-le : (t : Cell) (f : ℕ → ℕ) (most n : ℕ) → f n ≤ most → f (n + 1) ≤ most → along_v1 t f n ≤ most * width t.v1
along_v1-le t f most n low high = blended-le t.v1 (f n) (f (n + 1)) most low high

along_v0-le : (t : Cell) (row : ℕ) (f : ℕ → ℕ) (most n : ℕ) → f n ≤ most → f (n + 1) ≤ most → f (n + row) ≤ most → f (n + row + 1) ≤ most → along_v0 t row f n ≤ most * width t.v1 * width t.v0
along_v0-le t row f most n a b c d =
    blended-le t.v0 (along_v1 t f n) (along_v1 t f (n + row)) (most * width t.v1) (along_v1-le t f most n a b) (along_v1-le t f most (n + row) c d)

joined : (by a b c : ℕ) → 2 * by * c * b * a ≡ 2 * by * (a * b * c)
joined by a b c = omega arith

-- no raised value is more than twice the size, so neither is their sum over the weight of the cell
pub corners-le : (t : Cell) (row plane n by : ℕ) (side : Side) (below : List Pair) → AreWithin by side below → n + plane + row + 1 < length below → along_h t row plane (raised_at by side below) n ≤ 2 * by * weight_of_cell t
corners-le t row plane n by side below within here =
    let f : ℕ → ℕ = raised_at by side below in
    let most : (k : ℕ) → k ≤ n + plane + row + 1 → f k ≤ 2 * by = λ k inside. raised-le by (value_at side below k) (within.bounded k (omega (arith, inside, here))) in
    let low : along_v0 t row f n ≤ 2 * by * width t.v1 * width t.v0 =
    along_v0-le t row f (2 * by) n (most n (omega arith)) (most (n + 1) (omega arith)) (most (n + row) (omega arith)) (most (n + row + 1) (omega arith)) in
    let high : along_v0 t row f (n + plane) ≤ 2 * by * width t.v1 * width t.v0 =
    along_v0-le t row f (2 * by) (n + plane) (most (n + plane) (omega arith)) (most (n + plane + 1) (omega arith)) (most (n + plane + row) (omega arith)) (most (n + plane + row + 1) (omega arith)) in
    omega (arith, blended-le t.h (along_v0 t row f n) (along_v0 t row f (n + plane)) (2 * by * width t.v1 * width t.v0) low high, joined by (width t.h) (width t.v0) (width t.v1))

-- the weight of a cell of a grid is at most that of the largest cell
pub cell-light : (g : GridData) (t : Cell) → FitsGrid g t → weight_of_cell t ≤ greatest_weight
cell-light g t fits = mul-le-mul (mul-le-mul fits.h.narrow fits.v0.narrow) fits.v1.narrow

-- ---- where the corners are, and what their sum is

far_corner : (i j k m n first : ℕ) → first + ((i * m + j) * n + k) + m * n + n + 1 ≡ first + ((suc i * m + suc j) * n + suc k)
far_corner i j k m n first = omega arith

-- the upper corner of a cell of the grid is in the layer
pub corners_inside : (g : GridData) (t : Cell) (first count n : ℕ) → FitsGrid g t → n ≡ first + vertex_number g (record { i = t.h.cell; j = t.v0.cell; k = t.v1.cell }) → first + vertices g ≤ count →
    n + length g.v0 * length g.v1 + length g.v1 + 1 < count
corners_inside g t first count n fits at room =
    let y : Vertex = record { i = suc t.h.cell; j = suc t.v0.cell; k = suc t.v1.cell } in
    let inside : IsVertex g y = record { i = omega (arith, fits.h.place); j = omega (arith, fits.v0.place); k = omega (arith, fits.v1.place) } in
    omega (arith, at, room, far_corner t.h.cell t.v0.cell t.v1.cell (length g.v0) (length g.v1) first, (vertices-one_to_one g).below y inside)

-- their sum is that of the values, raised
pub corners_raised : (g : GridData) (t : Cell) (first n by sum divisor : ℕ) (side : Side) (below : List Pair) → FitsGrid g t → n ≡ first + vertex_number g (record { i = t.h.cell; j = t.v0.cell; k = t.v1.cell }) →
    first + vertices g ≤ length below → AreWithin by side below → divisor ≡ weight_of_cell t → sum ≡ along_h t (length g.v1) (length g.v0 * length g.v1) (raised_at by side below) n →
    pos sum ≡ sum_over g t first side below +ℤ pos (by * divisor)
corners_raised g t first n by sum divisor side below fits at room within whole is =
    let f : ℕ → ℕ = raised_at by side below in
    let v : ℕ → ℤ = value_at side below in
    let are : AreRaised g first by f v = record { each = λ k here. raised-pos by (v k) (within.bounded k (omega (arith, here, room))) } in
    ap pos is
    ∙ over_ends-raised g t first by f v n are fits at
    ∙ ap (λ (k : ℕ). sum_over g t first side below +ℤ pos (by * k)) (sym whole)

-- ---- quotients

pub sum-fits : (sum divisor by : ℕ) → by ≤ WIDE_SIZE → sum ≤ 2 * by * divisor → sum ≤ 2 ^ 62 * divisor
sum-fits sum divisor by size within =
    let twice : 2 * by ≤ 2 ^ 62 = omega (arith, size) in
    omega (arith, within, mul-le-mul_right divisor twice)

-- a quotient of no more than so many times the divisor, rounded up, is no more than that
pub quotient-most : (sum divisor most : ℕ) → 0 < divisor → sum ≤ most * divisor → (sum + (divisor - 1)) / divisor ≤ most
quotient-most sum divisor most some within =
    omega (arith, div_below (sum + (divisor - 1)) divisor (most + 1) some (omega (arith, some, within)))

pub quotient_down-most : (sum divisor most : ℕ) → 0 < divisor → sum ≤ most * divisor → sum / divisor ≤ most
quotient_down-most sum divisor most some within = omega (arith, div_below sum divisor (most + 1) some (omega (arith, some, within)))

-- what is raised as much as that is that much more than the number
pub lowered_is : (raised by : ℕ) (x y : ℤ) → pos raised ≡ x +ℤ pos by → y ≡ pos raised -ℤ pos by → y ≡ x
lowered_is raised by x y is at = omega (arith, ints, is, at)

-- ---- sums over the sigma points

-- a sum over the first points leaves room for one more
pub sum-room : (m : ModelData) (by q sum : ℕ) → q < length m.sigmas → total_weight m ≤ GREATEST_TOTAL_WEIGHT → by ≤ WIDE_SIZE → sum ≤ 2 * by * weights_below m q → sum ≤ 2 ^ 100
sum-room m by q sum here light size within =
    let least : weights_below m q + sigma_weight m q ≤ total_weight m = sum_by_more_le weight_of m.sigmas q (record { weight = pos 0; own = pos 0; intruder = pos 0 }) here in
    let twice : 2 * by ≤ 2 ^ 62 = omega (arith, size) in
    let few : weights_below m q ≤ 1000 = omega (arith, least, light) in
    let whole : 2 * by * weights_below m q ≤ 2 ^ 62 * 1000 = mul-le-mul twice few in
    omega (arith, within, whole)
