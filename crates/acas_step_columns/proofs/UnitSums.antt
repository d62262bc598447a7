-- Sums over the corners of a cell in units.
use Rattle.std.proofs.Common.{◌≡◌, ℕ, suc, ◌+◌, ◌*◌, ◌<◌, ℤ, pos, ◌+ℤ◌, ◌*ℤ◌, List, refl, ap, sym, ◌∙◌, arith}
use Rattle.std.proofs.Math.Nat.{mul-pos}
use Rattle.acas_spec.specs.Limits.{IsModel}
use Rattle.acas_spec.specs.Model.{ModelData, vertices}
use Rattle.acas_spec.specs.declared.place.Point.{Point}
use Rattle.acas_frac.specs.Rounding.{IsRounding}
use Rattle.acas_frac.proofs.RoundingLaws.{round-mul_both}
use Rattle.acas_frac.proofs.SignedProducts.{mul_assoc_ℤ}
use Rattle.acas_grid.specs.Grid.{vertex_number}
use Rattle.acas_units.specs.declared.pair.Pair.{Pair}
use Rattle.acas_process.specs.Values.{interpolated}
use Rattle.acas_process.proofs.CellLaws.{two_scaled}
use Rattle.acas_step.specs.Ends.{at_both, over_ends, weight_of_cell}
use Rattle.acas_means.specs.Layer.{layer_values, value_at}
use Rattle.acas_step_narrow.specs.Narrow.{sum_over}
use Rattle.acas_step.specs.declared.cell.Cell.{Cell}
use Rattle.acas_step.specs.declared.cell.Ends.{Ends}
use Rattle.acas_means.specs.declared.layer.Side.{Side}
use Rattle.acas_step_narrow.proofs.RaisedMeans.{interpolated_is}
use Rattle.acas_step_stencils.specs.Units.{AreUnits}
use Rattle.acas_step_stencils.specs.Cells.{IsRoundIn}
use Rattle.acas_step_stencils.specs.declared.units.Units.{Units}
use Rattle.acas_step_stencils.proofs.UnitLaws.{exact, exact-IsRound, exact_ends, unit_product}

width_out : (unit l m : ℕ) → unit * l + unit * m ≡ unit * (l + m)
width_out unit l m = omega arith

weights_out : (a b c x y z : ℕ) → (a * x) * (b * y) * (c * z) ≡ (a * (b * c)) * (x * y * z)
weights_out a b c x y z = omega arith

exact-weight : (u : Units) (t : Cell) → weight_of_cell (exact u t) ≡ unit_product u * weight_of_cell t
exact-weight u t =
    ap (λ (n : ℕ). n * (u.v0 * t.v0.lower + u.v0 * t.v0.upper) * (u.v1 * t.v1.lower + u.v1 * t.v1.upper)) (width_out u.h t.h.lower t.h.upper)
    ∙ ap (λ (n : ℕ). (u.h * (t.h.lower + t.h.upper)) * n * (u.v1 * t.v1.lower + u.v1 * t.v1.upper)) (width_out u.v0 t.v0.lower t.v0.upper)
    ∙ ap (λ (n : ℕ). (u.h * (t.h.lower + t.h.upper)) * (u.v0 * (t.v0.lower + t.v0.upper)) * n) (width_out u.v1 t.v1.lower t.v1.upper)
    ∙ weights_out u.h u.v0 u.v1 (t.h.lower + t.h.upper) (t.v0.lower + t.v0.upper) (t.v1.lower + t.v1.upper)

turned : (a k l : ℕ) → a * l * k ≡ a * k * l
turned a k l = omega arith

term_out : (a k l : ℕ) (y : ℤ) → pos (a * l) *ℤ (pos k *ℤ y) ≡ pos (a * k * l) *ℤ y
term_out a k l y = sym (mul_assoc_ℤ (pos (a * l)) (pos k) y) ∙ ap (λ (n : ℕ). pos n *ℤ y) (turned a k l)

both_out : (a l m : ℕ) (y z : ℤ) → pos (a * l) *ℤ y +ℤ pos (a * m) *ℤ z ≡ pos a *ℤ (pos l *ℤ y +ℤ pos m *ℤ z)
both_out a l m y z = two_scaled a l m (a * l) (a * m) y z refl refl

-- a sum over two ends in full, of numbers that are so many times others
scaled_out : (e : Ends) (a k : ℕ) (f g : ℕ → ℤ) → f e.cell ≡ pos k *ℤ g e.cell → f (suc e.cell) ≡ pos k *ℤ g (suc e.cell) → at_both (exact_ends a e) f ≡ pos (a * k) *ℤ at_both e g
scaled_out e a k f g p q =
    ap (λ y. pos (a * e.lower) *ℤ y +ℤ pos (a * e.upper) *ℤ f (suc e.cell)) p
    ∙ ap (λ y. pos (a * e.lower) *ℤ (pos k *ℤ g e.cell) +ℤ pos (a * e.upper) *ℤ y) q
    ∙ ap (λ y. y +ℤ pos (a * e.upper) *ℤ (pos k *ℤ g (suc e.cell))) (term_out a k e.lower (g e.cell))
    ∙ ap (λ y. pos (a * k * e.lower) *ℤ g e.cell +ℤ y) (term_out a k e.upper (g (suc e.cell)))
    ∙ both_out (a * k) e.lower e.upper (g e.cell) (g (suc e.cell))

exact-over : (u : Units) (t : Cell) (z : ℕ → ℕ → ℕ → ℤ) → over_ends (exact u t) z ≡ pos (unit_product u) *ℤ over_ends t z
exact-over u t z =
    let full : ℕ → ℕ → ℤ = λ i j. at_both (exact_ends u.v1 t.v1) (λ k. z i j k) in
    let row : ℕ → ℕ → ℤ = λ i j. at_both t.v1 (λ k. z i j k) in
    let rows : (i j : ℕ) → full i j ≡ pos u.v1 *ℤ row i j = λ i j. both_out u.v1 t.v1.lower t.v1.upper (z i j t.v1.cell) (z i j (suc t.v1.cell)) in
    let plane : (i : ℕ) → at_both (exact_ends u.v0 t.v0) (full i) ≡ pos (u.v0 * u.v1) *ℤ at_both t.v0 (row i) =
    λ i. scaled_out t.v0 u.v0 u.v1 (full i) (row i) (rows i t.v0.cell) (rows i (suc t.v0.cell)) in
    scaled_out t.h u.h (u.v0 * u.v1) (λ i. at_both (exact_ends u.v0 t.v0) (full i)) (λ i. at_both t.v0 (row i)) (plane t.h.cell) (plane (suc t.h.cell))

-- the sum over the corners of a cell in units, over its weight, is that of the cell in full
pub interpolated_in : (round : ℤ → ℤ → ℤ) → IsRounding round → (m : ModelData) (u : Units) (s : Point) (t : Cell) (a : ℕ) (side : Side) (below : List Pair) → IsModel m → AreUnits u → IsRoundIn m.grid u s t →
    0 < weight_of_cell t → round (sum_over m.grid t (a * vertices m.grid) side below) (pos (weight_of_cell t)) ≡ interpolated round m (layer_values side m.grid below) a s
interpolated_in round way m u s t a side below valid units is some =
    let full : Cell = exact u t in
    let n : ℕ = unit_product u in
    let sum : ℤ = sum_over m.grid t (a * vertices m.grid) side below in
    let over : sum_over m.grid full (a * vertices m.grid) side below ≡ pos n *ℤ sum =
    exact-over u t (λ i j k. value_at side below (a * vertices m.grid + vertex_number m.grid (record { i = i; j = j; k = k }))) in
    sym (round-mul_both round way n (weight_of_cell t) sum (mul-pos units.h (mul-pos units.v0 units.v1)) some)
    ∙ ap (λ z. round z (pos n *ℤ pos (weight_of_cell t))) (sym over)
    ∙ ap (λ (k : ℕ). round (sum_over m.grid full (a * vertices m.grid) side below) (pos k)) (sym (exact-weight u t))
    ∙ interpolated_is round way m s full a side below valid (exact-IsRound m.grid u s t is)
