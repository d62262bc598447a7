-- Where a second leads from a vertex of a column, by the stencil of the column and the heights of the altitudes.
use Rattle.std.proofs.Common.{◌≡◌, ℕ, ◌*◌, ◌/◌, ◌%◌, ◌<◌, ℤ, pos, ◌+ℤ◌, ◌-ℤ◌, ◌*ℤ◌, List, length, refl, ap, sym, ◌∙◌, arith}
use Rattle.std.proofs.lemmas.Int.{ints}
use Rattle.acas_spec.specs.Axis.{place_value}
use Rattle.acas_spec.specs.Limits.{IsGrid}
use Rattle.acas_spec.specs.Model.{GridData, ModelData, advisory_at, sigma_at, vertices}
use Rattle.acas_spec.specs.declared.place.Vertex.{Vertex}
use Rattle.acas_grid.specs.Axis.{clamp_to}
use Rattle.acas_grid.specs.States.{vertex_at}
use Rattle.acas_process.specs.Step.{command, moved}
use Rattle.acas_means.specs.Columns.{columns, vertex_in}
use Rattle.acas_step.specs.Second.{led_past}
use Rattle.acas_step_stencils.specs.Units.{AreUnits, IsAbove}
use Rattle.acas_step_stencils.specs.Heights.{AreHeights, IsLedTo}
use Rattle.acas_step_stencils.specs.Stencils.{IsStencil, IsStencilOf, climb_from}
use Rattle.acas_step_stencils.specs.declared.heights.HeightPlace.{HeightPlace}
use Rattle.acas_step_stencils.specs.declared.units.Units.{Units}
use Rattle.acas_step_stencils.specs.declared.column_stencils.ColumnStencil.{ColumnStencil}
use Rattle.acas_step_stencils.specs.declared.stencils.Stencil.{Stencil}
use Rattle.acas_step_stencils.proofs.GapLaws.{above-moved}
use Rattle.acas_step_stencils.proofs.HeightLaws.{height_above, height_led_to}
use Rattle.acas_step_stencils.proofs.ColumnVertices.{moved_in_column-v0, moved_in_column-v1, vertex_at-column, vertex_at-vertex_in}

-- ---- the climb of a column

climb_from_place : (h h' v0 v1 intruder own : ℤ) → (h +ℤ pos 2 *ℤ (v1 -ℤ v0) +ℤ intruder -ℤ own) -ℤ h ≡ (h' +ℤ pos 2 *ℤ (v1 -ℤ v0) +ℤ intruder -ℤ own) -ℤ h'
climb_from_place h h' v0 v1 intruder own = omega (arith, ints)

-- a second leads up from each vertex of a column as far as from the lowest
pub climb_in_column : (m : ModelData) (column i a q : ℕ) → column < columns m.grid → i < length m.grid.h → climb_from m (vertex_at m.grid column) a q ≡ climb_from m (vertex_at m.grid (vertex_in m.grid column i)) a q
climb_in_column m column i a q inside here =
    let v0 : ℤ = place_value m.grid.v0 (column / length m.grid.v1) in
    let v1 : ℤ = place_value m.grid.v1 (column % length m.grid.v1) in
    let own : ℤ = command (advisory_at m a).lo (advisory_at m a).hi (pos m.pull) v0 +ℤ (sigma_at m q).own in
    ap (λ (y : Vertex). climb_from m y a q) (vertex_at-column m.grid column i inside here)
    ∙ climb_from_place (place_value m.grid.h 0) (place_value m.grid.h i) v0 v1 (sigma_at m q).intruder own
    ∙ sym (ap (λ (y : Vertex). climb_from m y a q) (vertex_at-vertex_in m.grid column i inside here))

climbed : (past from : ℤ) → past ≡ from +ℤ (past -ℤ from)
climbed past from = omega (arith, ints)

-- the altitude to which a second leads is that of the vertex and the climb, between the ends of the axis
pub moved-climb : (m : ModelData) (x : Vertex) (a q : ℕ) → (moved m x a q).h ≡ clamp_to m.grid.h (place_value m.grid.h x.i +ℤ climb_from m x a q)
moved-climb m x a q = ap (λ z. clamp_to m.grid.h z) (climbed (led_past m x a q).h (place_value m.grid.h x.i))

-- ---- the stencil of a vertex

-- the stencil of a vertex by that of its column and the place of the height after its climb
pub column-IsStencil : (m : ModelData) (u : Units) (heights : List ℕ) (c i a q : ℕ) (s : ColumnStencil) (x : ℕ) (at : HeightPlace) (t : Stencil) → IsGrid m.grid → AreUnits u →
    AreHeights m.grid.h u.h heights → c < columns m.grid → i < length m.grid.h → IsStencilOf m u c a q s → IsLedTo heights i s.climb x at →
    t.base < vertices m.grid → t.base ≡ vertex_in m.grid s.column at.place → t.h ≡ at.offset → t.v0 ≡ s.v0 → t.v1 ≡ s.v1 →
    IsStencil m.grid u (moved m (vertex_at m.grid (vertex_in m.grid c i)) a q) t
column-IsStencil m u heights c i a q s x at t valid units are inside here is led below base h v0 v1 =
    let g : GridData = m.grid in
    let place : ℕ = at.place in
    let y : Vertex = vertex_at g (vertex_in g c i) in
    let up : place < length g.h = omega (arith, led.cell.before_last, are.count) in
    let from : vertex_at g t.base ≡ record { i = place; j = s.column / length g.v1; k = s.column % length g.v1 } = ap (vertex_at g) base ∙ vertex_at-vertex_in g s.column place is.column up in
    let lowest : vertex_at g s.column ≡ record { i = 0; j = s.column / length g.v1; k = s.column % length g.v1 } = vertex_at-column g s.column place is.column up in
    let climb : pos u.h *ℤ s.climb ≡ climb_from m y a q = is.climb ∙ climb_in_column m c i a q inside here in
    let end : (moved m y a q).h ≡ clamp_to g.h (place_value g.h i +ℤ climb_from m y a q) =
    moved-climb m y a q ∙ ap (λ (z : Vertex). clamp_to g.h (place_value g.h z.i +ℤ climb_from m y a q)) (vertex_at-vertex_in g c i inside here) in
    let to : pos (u.h * x) ≡ (moved m y a q).h -ℤ place_value g.h 0 =
    height_led_to g.h u.h heights i x s.climb (climb_from m y a q) valid.altitudes are here climb led.value ∙ ap (λ z. z -ℤ place_value g.h 0) (sym end) in
    let higher : IsAbove g.h u.h (moved m y a q).h place at.offset = height_above g.h u.h heights place x at.offset (moved m y a q).h valid.altitudes units.h are led.cell led.above to in
    record {
      base = below;
      h = above-moved g.h u.h refl (sym (ap (λ (z : Vertex). z.i) from)) (sym h) higher;
      v0 = above-moved g.v0 u.v0 (moved_in_column-v0 m c i a q inside here) (ap (λ (z : Vertex). z.j) lowest ∙ sym (ap (λ (z : Vertex). z.j) from)) (sym v0) is.v0;
      v1 = above-moved g.v1 u.v1 (moved_in_column-v1 m c i a q inside here) (ap (λ (z : Vertex). z.k) lowest ∙ sym (ap (λ (z : Vertex). z.k) from)) (sym v1) is.v1;
    }
