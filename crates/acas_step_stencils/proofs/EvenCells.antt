-- Over heights with a gap of one size, the cells above the vertices of a column have the same gaps.
use Rattle.std.proofs.Common.{◌≡◌, ℕ, ◌+◌, ◌*◌, ◌<◌, ◌≤◌, List, length, refl, ap, sym, subst, ◌∙◌, arith}
use Rattle.std.proofs.Math.Nat.{le_of_mul-le-mul_left}
use Rattle.acas_spec.specs.Limits.{IsGrid}
use Rattle.acas_spec.specs.Model.{GridData}
use Rattle.acas_spec.specs.declared.place.Vertex.{Vertex}
use Rattle.acas_grid.specs.States.{vertex_at}
use Rattle.acas_means.specs.Columns.{columns, vertex_in}
use Rattle.acas_step_stencils.specs.Heights.{AreHeights, IsEvenGap}
use Rattle.acas_step_stencils.specs.Units.{AreUnits}
use Rattle.acas_step_stencils.specs.Cells.{IsVertexCell}
use Rattle.acas_step_stencils.specs.declared.units.Units.{Units}
use Rattle.acas_step_stencils.specs.declared.vertex_cells.VertexCell.{VertexCell}
use Rattle.acas_step_stencils.proofs.EvenHeights.{even-gap}
use Rattle.acas_step_stencils.proofs.ColumnVertices.{vertex_at-column, vertex_at-vertex_in}

-- two numbers are the same if so many times each of them is
factor-same : (n a b : ℕ) → 0 < n → n * a ≡ n * b → a ≡ b
factor-same n a b some same =
    let low : a ≤ b = le_of_mul-le-mul_left {k = n} (omega (arith, same)) some in
    let high : b ≤ a = le_of_mul-le-mul_left {k = n} (omega (arith, same)) some in
    omega (arith, low, high)

-- the cell above a vertex is the one above the lowest vertex of the column, but for its place
pub even_vertex_cell : (g : GridData) (u : Units) (heights : List ℕ) (even column place : ℕ) (low : VertexCell) → IsGrid g → AreUnits u → AreHeights g.h u.h heights → 0 < even → IsEvenGap heights even →
    column < columns g → place + 1 < length g.h → IsVertexCell g u (vertex_at g column) low →
    IsVertexCell g u (vertex_at g (vertex_in g column place)) (record { i = place; j = low.j; k = low.k; h = even; v0 = low.v0; v1 = low.v1; divisor = low.divisor })
even_vertex_cell g u heights even column place low valid units are some same inside here known =
    let up : place < length g.h = omega (arith, here) in
    let at = vertex_at-vertex_in g column place inside up in
    let lowest = subst (λ (y : Vertex). IsVertexCell g u y low) (vertex_at-column g column place inside up) known in
    let first : 0 + 1 < length g.h = omega (arith, here) in
    let gap_there : low.h ≡ even =
    factor-same u.h low.h even units.h (lowest.h.whole first ∙ sym (even-gap g.h u.h even 0 heights valid.altitudes are some same first)) in
    subst (λ (y : Vertex). IsVertexCell g u y (record { i = place; j = low.j; k = low.k; h = even; v0 = low.v0; v1 = low.v1; divisor = low.divisor })) (sym at)
    (record {
      i = refl;
      j = lowest.j;
      k = lowest.k;
      h = record { some = some; whole = λ before. even-gap g.h u.h even place heights valid.altitudes are some same before };
      v0 = lowest.v0;
      v1 = lowest.v1;
      divisor = lowest.divisor;
      by = lowest.by ∙ ap (λ (n : ℕ). n * low.v0 * low.v1) gap_there;
    })
