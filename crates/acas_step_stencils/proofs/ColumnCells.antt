-- The cells to which a second leads from the vertices of a column: on both rates they are the same, and each follows from the rates.
use Rattle.std.proofs.Common.{◌≡◌, ℕ, ◌+◌, ◌*◌, ◌<◌, ◌≤◌, ℤ, List, length, refl, get_or, sym, subst, ◌∙◌, arith}
use Rattle.std.proofs.Math.Nat.{le_of_mul-le-mul_left}
use Rattle.acas_spec.specs.Axis.{place_value}
use Rattle.acas_spec.specs.Limits.{IsGrid}
use Rattle.acas_spec.specs.Model.{GridData, ModelData, vertices}
use Rattle.acas_spec.specs.declared.place.Point.{Point}
use Rattle.acas_spec.specs.declared.place.Vertex.{Vertex}
use Rattle.acas_grid.specs.Axis.{IsCell}
use Rattle.acas_grid.specs.States.{vertex_at}
use Rattle.acas_process.specs.Step.{moved}
use Rattle.acas_process.proofs.AxisLaws.{distance-add}
use Rattle.acas_means.specs.Columns.{columns, vertex_in}
use Rattle.acas_step.specs.declared.cell.Cell.{Cell}
use Rattle.acas_step.specs.declared.cell.Ends.{Ends}
use Rattle.acas_step_stencils.specs.Units.{AreUnits, IsGapIn}
use Rattle.acas_step_stencils.specs.Stencils.{IsStencil}
use Rattle.acas_step_stencils.specs.Cells.{AreVertexCells, HoldsRates, IsEndsIn, IsRoundIn, IsUnitCell, IsVertexCell}
use Rattle.acas_step_stencils.specs.declared.units.Units.{Units}
use Rattle.acas_step_stencils.specs.declared.stencils.Stencil.{Stencil}
use Rattle.acas_step_stencils.specs.declared.stencils.UnitCell.{UnitCell}
use Rattle.acas_step_stencils.specs.declared.vertex_cells.VertexCell.{VertexCell}
use Rattle.acas_step_stencils.proofs.GapLaws.{offset-within}
use Rattle.acas_step_stencils.proofs.UnitLaws.{ends_in-IsEndsIn, known_cell}
use Rattle.acas_step_stencils.proofs.ColumnVertices.{moved_in_column-v0, moved_in_column-v1}

-- ---- the cells that hold the rates of a point

-- a cell that holds the rates of one of the points to which a second leads from a column holds those of all
pub rates_in_column : (m : ModelData) (u : Units) (t : Cell) (column i a q : ℕ) → column < columns m.grid → i < length m.grid.h →
    HoldsRates m.grid u (moved m (vertex_at m.grid column) a q) t → HoldsRates m.grid u (moved m (vertex_at m.grid (vertex_in m.grid column i)) a q) t
rates_in_column m u t column i a q inside here holds = record {
  v0 = subst (λ z. IsEndsIn m.grid.v0 u.v0 z t.v0) (moved_in_column-v0 m column i a q inside here) holds.v0;
  v1 = subst (λ z. IsEndsIn m.grid.v1 u.v1 z t.v1) (moved_in_column-v1 m column i a q inside here) holds.v1;
}

-- the cell of a point holds its rates
pub unit_cell-HoldsRates : (g : GridData) (u : Units) (s : Point) (c : UnitCell) → IsUnitCell g u s c → HoldsRates g u s c.cell
unit_cell-HoldsRates g u s c is = record { v0 = is.round.v0; v1 = is.round.v1 }

-- ---- the cell of a point whose rates are in a cell that is known

-- a cell that is read of those above all vertices
pub vertex_cell-read : (g : GridData) (u : Units) (cells : List VertexCell) (n : ℕ) (read : VertexCell) → AreVertexCells g u cells → n < vertices g → read ≡ get_or cells n read → IsVertexCell g u (vertex_at g n) read
vertex_cell-read g u cells n read are below at = subst (λ (c : VertexCell). IsVertexCell g u (vertex_at g n) c) (sym at) (are.each n read below)

-- a number is in one cell only
cell-unique : (axis : List ℤ) (k l : ℕ) (x : ℤ) → IsCell axis k x → IsCell axis l x → k ≡ l
cell-unique axis k l x p q = omega (arith, p.greatest l q.before_last q.lower, q.greatest k p.before_last p.lower)

vertex_same : (i j k j' k' : ℕ) → j ≡ j' → k ≡ k' → ◌≡◌ {A = Vertex} (record { i = i; j = j; k = k }) (record { i = i; j = j'; k = k' })
vertex_same i j k j' k' p q = rw (p, q) refl

-- a stencil begins at the rates of each cell that holds them
pub base_at_rates : (g : GridData) (u : Units) (x : Point) (s : Stencil) (t : Cell) → IsStencil g u x s → HoldsRates g u x t →
    vertex_at g s.base ≡ record { i = (vertex_at g s.base).i; j = t.v0.cell; k = t.v1.cell }
base_at_rates g u x s t is holds =
    let y : Vertex = vertex_at g s.base in
    vertex_same y.i y.j y.k t.v0.cell t.v1.cell (cell-unique g.v0 y.j t.v0.cell x.v0 is.v0.cell holds.v0.cell) (cell-unique g.v1 y.k t.v1.cell x.v1 is.v1.cell holds.v1.cell)

-- the gap of a cell in a unit is that from its place to the next
width_in : (axis : List ℤ) (unit units : ℕ) (x : ℤ) (e : Ends) → 0 < unit → IsGapIn axis unit e.cell units → IsEndsIn axis unit x e → e.lower + e.upper ≡ units
width_in axis unit units x e some gaps is =
    let whole : unit * (e.lower + e.upper) ≡ unit * units =
    omega (arith, is.lower, is.upper, gaps.whole is.cell.before_last, distance-add (place_value axis e.cell) x (place_value axis (e.cell + 1)) is.cell.lower is.cell.upper) in
    let low : e.lower + e.upper ≤ units = le_of_mul-le-mul_left {k = unit} (omega (arith, whole)) some in
    let high : units ≤ e.lower + e.upper = le_of_mul-le-mul_left {k = unit} (omega (arith, whole)) some in
    omega (arith, low, high)

-- an offset in units of the altitudes is at most the gap there
pub offset_at_rates : (g : GridData) (u : Units) (x : Point) (s : Stencil) (t : Cell) (base : ℕ) (above : VertexCell) → AreUnits u → IsStencil g u x s →
    vertex_at g base ≡ record { i = (vertex_at g s.base).i; j = t.v0.cell; k = t.v1.cell } → IsVertexCell g u (vertex_at g base) above → s.h ≤ above.h
offset_at_rates g u x s t base above units is at known =
    let here = subst (λ (y : Vertex). IsVertexCell g u y above) at known in
    offset-within g.h u.h (vertex_at g s.base).i above.h x.h s.h units.h here.h is.h

-- the cell above that vertex, and the cell with the rates, are together the cell of the point
pub cell_at_rates : (g : GridData) (u : Units) (x : Point) (s : Stencil) (t : Cell) (base : ℕ) (above : VertexCell) (e : Ends) → IsGrid g → AreUnits u → IsStencil g u x s → HoldsRates g u x t →
    vertex_at g base ≡ record { i = (vertex_at g s.base).i; j = t.v0.cell; k = t.v1.cell } → IsVertexCell g u (vertex_at g base) above →
    e.cell ≡ above.i → e.lower + s.h ≡ above.h → e.upper ≡ s.h →
    IsUnitCell g u x (record { cell = record { h = e; v0 = t.v0; v1 = t.v1 }; base = base; divisor = above.divisor })
cell_at_rates g u x s t base above e valid units is rates at known cell low up =
    let place : ℕ = (vertex_at g s.base).i in
    let c : Cell = record { h = e; v0 = t.v0; v1 = t.v1 } in
    let here : IsVertexCell g u (record { i = place; j = t.v0.cell; k = t.v1.cell }) above = subst (λ (y : Vertex). IsVertexCell g u y above) at known in
    let round : IsRoundIn g u x c = record {
      h = ends_in-IsEndsIn g.h u.h place above.h x.h s.h e here.h is.h (cell ∙ here.i) low up;
      v0 = rates.v0;
      v1 = rates.v1;
    } in
    record {
      round = round;
      known = known_cell g u x base above c valid units known round cell (sym here.j) (sym here.k) (omega (arith, low, up))
          (width_in g.v0 u.v0 above.v0 x.v0 t.v0 units.v0 here.v0 rates.v0)
          (width_in g.v1 u.v1 above.v1 x.v1 t.v1 units.v1 here.v1 rates.v1);
    }
