-- The blend on the altitude of the blends of a column at the rates of a cell is the sum over the corners of the cell, raised.
use Rattle.std.proofs.Common.{◌≡◌, ℕ, ◌+◌, ◌*◌, ◌<◌, ◌≤◌, ℤ, pos, ◌+ℤ◌, List, length, mul-le-mul_right, ap, sym, subst, ◌∙◌, arith}
use Rattle.acas_spec.specs.Limits.{IsModel}
use Rattle.acas_spec.specs.Model.{GridData, ModelData, states, vertices}
use Rattle.acas_spec.specs.declared.place.Point.{Point}
use Rattle.acas_frac.specs.Rounding.{IsRounding}
use Rattle.acas_units.specs.declared.pair.Pair.{Pair}
use Rattle.acas_process.specs.Values.{interpolated}
use Rattle.acas_means.specs.Columns.{vertex_in}
use Rattle.acas_step.specs.Ends.{column_of}
use Rattle.acas_step.specs.Ends.{FitsGrid, weight_of_cell}
use Rattle.acas_means.specs.Layer.{AreWithin, layer_values, value_at}
use Rattle.acas_step_narrow.specs.Narrow.{sum_over}
use Rattle.acas_step_narrow.specs.Raised.{along_v0, blended, raised_at}
use Rattle.acas_step.specs.declared.cell.Cell.{Cell}
use Rattle.acas_means.specs.declared.layer.Side.{Side}
use Rattle.acas_step_stencils.specs.Units.{AreUnits}
use Rattle.acas_step_stencils.specs.Cells.{IsUnitCell}
use Rattle.acas_step_stencils.specs.declared.stencils.UnitCell.{UnitCell}
use Rattle.acas_step_stencils.specs.declared.units.Units.{Units}
use Rattle.acas_step_stencils.proofs.ColumnVertices.{vertex_in-vertex_number}
use Rattle.acas_step_narrow.proofs.ColumnSizes.{rates_same}
use Rattle.acas_step_narrow.proofs.RaisedLaws.{raised-pos}
use Rattle.acas_step_narrow.proofs.RaisedSums.{AreRaised, over_ends-raised}
use Rattle.acas_step_columns.proofs.UnitSums.{interpolated_in}

next_in : (first column w i : ℕ) → first + (i * w + column) + w ≡ first + ((i + 1) * w + column)
next_in first column w i = omega arith

-- for one side, the blend on the altitude of the blends at both ends
column_sum-raised : (g : GridData) (t rates : Cell) (first by : ℕ) (side : Side) (below : List Pair) (near far : ℕ) → FitsGrid g t → t.v0 ≡ rates.v0 → t.v1 ≡ rates.v1 →
    first + vertices g ≤ length below → AreWithin by side below →
    near ≡ along_v0 rates (length g.v1) (raised_at by side below) (first + vertex_in g (column_of g rates) t.h.cell) →
    far ≡ along_v0 rates (length g.v1) (raised_at by side below) (first + vertex_in g (column_of g rates) (t.h.cell + 1)) →
    pos (blended t.h near far) ≡ sum_over g t first side below +ℤ pos (by * weight_of_cell t)
column_sum-raised g t rates first by side below near far fits p q room within at_near at_far =
    let f : ℕ → ℕ = raised_at by side below in
    let v : ℕ → ℤ = value_at side below in
    let column : ℕ = column_of g t in
    let row : ℕ = length g.v1 in
    let plane : ℕ = length g.v0 * length g.v1 in
    let n : ℕ = first + vertex_in g column t.h.cell in
    let same = rates_same t rates p q in
    let low : near ≡ along_v0 t row f n = subst (λ (c : Cell). near ≡ along_v0 c row f (first + vertex_in g (column_of g c) t.h.cell)) same at_near in
    let high : far ≡ along_v0 t row f (n + plane) =
    subst (λ (c : Cell). far ≡ along_v0 c row f (first + vertex_in g (column_of g c) (t.h.cell + 1))) same at_far
    ∙ ap (λ (k : ℕ). along_v0 t row f k) (sym (next_in first column plane t.h.cell)) in
    let are : AreRaised g first by f v = record { each = λ k here. raised-pos by (v k) (within.bounded k (omega (arith, here, room))) } in
    ap (λ (k : ℕ). pos (blended t.h k far)) low
    ∙ ap (λ (k : ℕ). pos (blended t.h (along_v0 t row f n) k)) high
    ∙ over_ends-raised g t first by f v n are fits (ap (λ (k : ℕ). first + k) (vertex_in-vertex_number g t.h.cell t.v0.cell t.v1.cell))

states_room : (a advisories v : ℕ) → a < advisories → a * v + v ≤ advisories * v
states_room a advisories v known = omega (arith, mul-le-mul_right v known)

-- so its quotient by the weight of the cell is the value at the point, raised
pub column_point : (round : ℤ → ℤ → ℤ) → IsRounding round → (m : ModelData) (u : Units) (s : Point) (at : UnitCell) (rates : Cell) (a by : ℕ) (side : Side) (below : List Pair) (near far sum point : ℕ) →
    IsModel m → AreUnits u → IsUnitCell m.grid u s at → at.cell.v0 ≡ rates.v0 → at.cell.v1 ≡ rates.v1 → a < m.grid.advisories → length below ≡ states m.grid → AreWithin by side below →
    near ≡ along_v0 rates (length m.grid.v1) (raised_at by side below) (a * vertices m.grid + vertex_in m.grid (column_of m.grid rates) at.cell.h.cell) →
    far ≡ along_v0 rates (length m.grid.v1) (raised_at by side below) (a * vertices m.grid + vertex_in m.grid (column_of m.grid rates) (at.cell.h.cell + 1)) →
    sum ≡ blended at.cell.h near far →
    ((x : ℤ) (by : ℕ) → pos sum ≡ x +ℤ pos (by * at.divisor.by) → pos point ≡ round x (pos at.divisor.by) +ℤ pos by) →
    pos point ≡ interpolated round m (layer_values side m.grid below) a s +ℤ pos by
column_point round way m u s at rates a by side below near far sum point valid units is p q known count within at_near at_far summed quotient =
    let g : GridData = m.grid in
    let first : ℕ = a * vertices g in
    let x : ℤ = sum_over g at.cell first side below in
    let some : 0 < weight_of_cell at.cell = omega (arith, is.known.divisor.some, is.known.by) in
    let room : first + vertices g ≤ length below = omega (arith, count, states_room a g.advisories (vertices g) known) in
    let raised : pos sum ≡ x +ℤ pos (by * at.divisor.by) =
    ap (λ (k : ℕ). pos k) summed
    ∙ column_sum-raised g at.cell rates first by side below near far is.known.fits p q room within at_near at_far
    ∙ ap (λ (k : ℕ). x +ℤ pos (by * k)) (sym is.known.by) in
    quotient x by raised
    ∙ ap (λ (k : ℕ). round x (pos k) +ℤ pos by) is.known.by
    ∙ ap (λ z. z +ℤ pos by) (interpolated_in round way m u s at.cell a side below valid units is.round some)
