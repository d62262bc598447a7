-- The blend of raised values over a cell is their sum over its corners, raised.
use Rattle.std.proofs.Common.{◌≡◌, ℕ, suc, ◌+◌, ◌*◌, ◌^◌, ◌<◌, ◌≤◌, ℤ, pos, ◌+ℤ◌, length, mul-le-mul_left, mul-le-mul_right, ap, ◌∙◌, arith}
use Rattle.acas_spec.specs.Model.{GridData, vertices}
use Rattle.acas_spec.specs.declared.place.Vertex.{Vertex}
use Rattle.acas_grid.specs.Grid.{IsVertex, vertex_number}
use Rattle.acas_grid.proofs.Vertices.{vertices-one_to_one}
use Rattle.acas_step.specs.Ends.{FitsGrid, at_both, over_ends, weight_of_cell}
use Rattle.acas_step_narrow.specs.Raised.{HasRoom, along_h, along_v0, along_v1, width}
use Rattle.acas_step.specs.declared.cell.Cell.{Cell}
use Rattle.acas_step.proofs.CornerLaws.{factor_pos}
use Rattle.acas_step_narrow.proofs.RaisedLaws.{blended-raised}

-- numbers from a place on are values of a layer, raised
pub record AreRaised (g : GridData) (first by : ℕ) (f : ℕ → ℕ) (v : ℕ → ℤ) : Type 0 where
  pub each : (n : ℕ) → n < first + vertices g → pos (f n) ≡ v n +ℤ pos by

-- the number of a vertex whose place is written in another way
at_vertex : (g : GridData) (first by : ℕ) (f : ℕ → ℕ) (v : ℕ → ℤ) (i j k n : ℕ) → AreRaised g first by f v → i < length g.h → j < length g.v0 → k < length g.v1 →
    n ≡ first + vertex_number g (record { i = i; j = j; k = k }) → pos (f n) ≡ v (first + vertex_number g (record { i = i; j = j; k = k })) +ℤ pos by
at_vertex g first by f v i j k n are hi hj hk e =
    let y : Vertex = record { i = i; j = j; k = k } in
    let inside : IsVertex g y = record { i = hi; j = hj; k = hk } in
    let below = (vertices-one_to_one g).below y inside in
    ap (λ (m : ℕ). pos (f m)) e ∙ are.each (first + vertex_number g y) (omega (arith, below))

-- the numbers of the corners of a cell
next_h : (i j k m n first : ℕ) → first + ((i * m + j) * n + k) + m * n ≡ first + ((suc i * m + j) * n + k)
next_h i j k m n first = omega arith

next_v0 : (i j k m n first : ℕ) → first + ((i * m + j) * n + k) + n ≡ first + ((i * m + suc j) * n + k)
next_v0 i j k m n first = omega arith

next_v1 : (i j k m n first : ℕ) → first + ((i * m + j) * n + k) + 1 ≡ first + ((i * m + j) * n + suc k)
next_v1 i j k m n first = omega arith

row_raised : (g : GridData) (t : Cell) (first by : ℕ) (f : ℕ → ℕ) (v : ℕ → ℤ) (i j n : ℕ) → AreRaised g first by f v → FitsGrid g t → i < length g.h → j < length g.v0 →
    n ≡ first + vertex_number g (record { i = i; j = j; k = t.v1.cell }) →
    pos (along_v1 t f n) ≡ at_both t.v1 (λ k. v (first + vertex_number g (record { i = i; j = j; k = k }))) +ℤ pos (by * width t.v1)
row_raised g t first by f v i j n are fits hi hj e =
    let z : ℕ → ℤ = λ k. v (first + vertex_number g (record { i = i; j = j; k = k })) in
    blended-raised t.v1 (f n) (f (n + 1)) by (z t.v1.cell) (z (suc t.v1.cell))
    (at_vertex g first by f v i j t.v1.cell n are hi hj (omega (arith, fits.v1.place)) e)
    (at_vertex g first by f v i j (suc t.v1.cell) (n + 1) are hi hj (omega (arith, fits.v1.place)) (ap (λ (m : ℕ). m + 1) e ∙ next_v1 i j t.v1.cell (length g.v0) (length g.v1) first))

plane_raised : (g : GridData) (t : Cell) (first by : ℕ) (f : ℕ → ℕ) (v : ℕ → ℤ) (i n : ℕ) → AreRaised g first by f v → FitsGrid g t → i < length g.h →
    n ≡ first + vertex_number g (record { i = i; j = t.v0.cell; k = t.v1.cell }) →
    pos (along_v0 t (length g.v1) f n) ≡ at_both t.v0 (λ j. at_both t.v1 (λ k. v (first + vertex_number g (record { i = i; j = j; k = k })))) +ℤ pos (by * width t.v1 * width t.v0)
plane_raised g t first by f v i n are fits hi e =
    let row : ℕ → ℤ = λ j. at_both t.v1 (λ k. v (first + vertex_number g (record { i = i; j = j; k = k }))) in
    blended-raised t.v0 (along_v1 t f n) (along_v1 t f (n + length g.v1)) (by * width t.v1) (row t.v0.cell) (row (suc t.v0.cell))
    (row_raised g t first by f v i t.v0.cell n are fits hi (omega (arith, fits.v0.place)) e)
    (row_raised g t first by f v i (suc t.v0.cell) (n + length g.v1) are fits hi (omega (arith, fits.v0.place))
    (ap (λ (m : ℕ). m + length g.v1) e ∙ next_v0 i t.v0.cell t.v1.cell (length g.v0) (length g.v1) first))

weights_joined : (by a b c : ℕ) → by * c * b * a ≡ by * (a * b * c)
weights_joined by a b c = omega arith

pub over_ends-raised : (g : GridData) (t : Cell) (first by : ℕ) (f : ℕ → ℕ) (v : ℕ → ℤ) (n : ℕ) → AreRaised g first by f v → FitsGrid g t →
    n ≡ first + vertex_number g (record { i = t.h.cell; j = t.v0.cell; k = t.v1.cell }) →
    pos (along_h t (length g.v1) (length g.v0 * length g.v1) f n) ≡ over_ends t (λ i j k. v (first + vertex_number g (record { i = i; j = j; k = k }))) +ℤ pos (by * weight_of_cell t)
over_ends-raised g t first by f v n are fits e =
    let plane : ℕ → ℤ = λ i. at_both t.v0 (λ j. at_both t.v1 (λ k. v (first + vertex_number g (record { i = i; j = j; k = k })))) in
    blended-raised t.h (along_v0 t (length g.v1) f n) (along_v0 t (length g.v1) f (n + length g.v0 * length g.v1)) (by * width t.v1 * width t.v0) (plane t.h.cell) (plane (suc t.h.cell))
    (plane_raised g t first by f v t.h.cell n are fits (omega (arith, fits.h.place)) e)
    (plane_raised g t first by f v (suc t.h.cell) (n + length g.v0 * length g.v1) are fits (omega (arith, fits.h.place))
    (ap (λ (m : ℕ). m + length g.v0 * length g.v1) e ∙ next_h t.h.cell t.v0.cell t.v1.cell (length g.v0) (length g.v1) first))
    ∙ ap (λ (m : ℕ). at_both t.h plane +ℤ pos m) (weights_joined by (width t.h) (width t.v0) (width t.v1))

some_first : (a b c : ℕ) → 0 < a * b * c → 1 ≤ a
some_first a b c some = factor_pos (a * b * c) a (b * c) some (omega arith)

some_second : (a b c : ℕ) → 0 < a * b * c → 1 ≤ b
some_second a b c some = factor_pos (a * b * c) b (a * c) some (omega arith)

-- sums over a cell have 64 bits where the whole weight, times a little more than twice the size, has
pub has_room : (t : Cell) (by : ℕ) → 0 < weight_of_cell t → weight_of_cell t * (2 * by + 1) < 2 ^ 63 → HasRoom (2 * by) t
has_room t by some room =
    let a : ℕ = width t.h in
    let b : ℕ = width t.v0 in
    let c : ℕ = width t.v1 in
    let least : 1 * (2 * by + 1) ≤ (a * b * c) * (2 * by + 1) = mul-le-mul_right (2 * by + 1) some in
    let pa : 1 ≤ a = some_first a b c some in
    let pb : 1 ≤ b = some_second a b c some in
    let whole : 2 * by * c * b * a < 2 ^ 63 = omega (arith, room) in
    let two : 2 * by * c * b < 2 ^ 63 = omega (arith, mul-le-mul_left (2 * by * c * b) pa) in
    let one : 2 * by * c < 2 ^ 63 = omega (arith, mul-le-mul_left (2 * by * c) pb) in
    record { values = omega (arith, least, room); v1 = one; v0 = two; h = whole }
