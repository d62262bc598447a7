-- Where the sigma points lead from each column of vertices under each advisory, found before the layers are formed.
use Rattle.std.specs.Prelude.{◌≡◌, ℕ, ◌*◌, ◌/◌, ◌%◌, ◌<◌, ◌≤◌, ℤ, pos, ◌-ℤ◌, ◌*ℤ◌, unsigned_abs, List, length, get_or, if◌then◌else◌, nat_eq}
use Rattle.std.specs.Int.{◌∣◌}
use Rattle.acas_spec.specs.Axis.{place_value}
use Rattle.acas_spec.specs.Model.{GridData, ModelData, total_weight, vertices}
use Rattle.acas_spec.specs.declared.place.Point.{Point}
use Rattle.acas_spec.specs.declared.place.Vertex.{Vertex}
use Rattle.acas_grid.specs.States.{vertex_at}
use Rattle.acas_process.specs.Step.{moved}
use Rattle.acas_frac.specs.Divisor.{IsDivisor}
use Rattle.acas_frac.specs.declared.divisor.Divisor.{Divisor}
use Rattle.acas_means.specs.Columns.{columns, vertex_in}
use Rattle.acas_step.specs.Second.{led_past}
use Rattle.acas_step_stencils.specs.Heights.{AreHeights, IsEvenGap, IsInGaps}
use Rattle.acas_step_stencils.specs.Units.{AreUnits, IsAbove}
use Rattle.acas_step_stencils.specs.Cells.{AreVertexCells, IsVertexCell}
use Rattle.acas_step_stencils.specs.declared.units.Units.{Units}
use Rattle.acas_step_stencils.specs.declared.column_stencils.ColumnStencil.{ColumnStencil}
use Rattle.acas_step_stencils.specs.declared.stencils.CellSize.{CellSize}
use Rattle.acas_step_stencils.specs.declared.stencils.Rise.{Rise}
use Rattle.acas_step_stencils.specs.declared.stencils.Stencil.{Stencil}
use Rattle.acas_step_stencils.specs.declared.stencils.StencilKey.{StencilKey}
use Rattle.acas_step_stencils.specs.declared.stencils.Stencils.{Stencils}
use Rattle.acas_step_stencils.specs.declared.vertex_cells.VertexCell.{VertexCell}

-- the stencil of a point: the number of the lower corner of its cell, and how far above that corner it is on each axis
pub record IsStencil (g : GridData) (units : Units) (x : Point) (s : Stencil) : Type 0 where
  pub base : s.base < vertices g
  pub h : IsAbove g.h units.h x.h (vertex_at g s.base).i s.h
  pub v0 : IsAbove g.v0 units.v0 x.v0 (vertex_at g s.base).j s.v0
  pub v1 : IsAbove g.v1 units.v1 x.v1 (vertex_at g s.base).k s.v1

-- how far a second leads up from the vertex x, be that beside the grid
abbrev pub climb_from : ModelData → Vertex → ℕ → ℕ → ℤ
climb_from m x a q = (led_past m x a q).h -ℤ place_value m.grid.h x.i

-- the stencil of the rates of a point and of a climb: the column at the lower corner of their cell, how far above that corner they are
-- on each axis, and the climb
pub record IsColumnStencil (g : GridData) (u : Units) (x : Point) (rise : ℤ) (s : ColumnStencil) : Type 0 where
  pub column : s.column < columns g
  pub v0 : IsAbove g.v0 u.v0 x.v0 (vertex_at g s.column).j s.v0
  pub v1 : IsAbove g.v1 u.v1 x.v1 (vertex_at g s.column).k s.v1
  pub climb : pos u.h *ℤ s.climb ≡ rise
  pub small : unsigned_abs s.climb ≤ 4_000_000

-- units divide the climb and the offsets of a stencil
pub record DivideOffsets (u : Units) (s : ColumnStencil) : Type 0 where
  pub climb : u.h ∣ unsigned_abs s.climb
  pub v0 : u.v0 ∣ s.v0
  pub v1 : u.v1 ∣ s.v1

-- a stencil is another one whose climb and offsets are counted in units
pub record IsCountedIn (u : Units) (s counted : ColumnStencil) : Type 0 where
  pub column : counted.column ≡ s.column
  pub v0 : u.v0 * counted.v0 ≡ s.v0
  pub v1 : u.v1 * counted.v1 ≡ s.v1
  pub climb : pos u.h *ℤ counted.climb ≡ s.climb
  pub small : unsigned_abs counted.climb ≤ 4_000_000

-- the stencil of the column c, the advisory a and the sigma point q, by their numbers: from the lowest vertex of the column
abbrev pub IsStencilOf : ModelData → Units → ℕ → ℕ → ℕ → ColumnStencil → Type 0
IsStencilOf m units c a q s =
    let x = vertex_at m.grid c in
    IsColumnStencil m.grid units (moved m x a q) (climb_from m x a q) s

-- the stencil of a number: advisory by advisory, of each by column, and of each column by sigma point
abbrev pub IsStencilNumbered : ModelData → Units → ℕ → ColumnStencil → Type 0
IsStencilNumbered m units n s =
    let row = n / length m.sigmas in
    IsStencilOf m units (row % columns m.grid) (row / columns m.grid) (n % length m.sigmas) s

-- the first stencils of a list are those of their numbers
pub record AreStencils (m : ModelData) (u : Units) (count : ℕ) (stencils : List ColumnStencil) : Type 0 where
  pub each : (n : ℕ) (d : ColumnStencil) → n < count → IsStencilNumbered m u n (get_or stencils n d)

-- how many stencils a model has: one for each advisory, column and sigma point, and none where there is no second to go
abbrev pub stencil_count : ModelData → ℕ
stencil_count m = if nat_eq m.grid.horizon 0 then 0 else m.grid.advisories * columns m.grid * length m.sigmas

-- stencils are those of a model, in units, with the heights of the altitudes and their gap, the cells above the vertices and the whole
-- weight of the sigma points
pub record AreStencilsOf (m : ModelData) (s : Stencils) : Type 0 where
  pub count : length s.stencils.items ≡ stencil_count m
  pub stencils : AreStencils m s.units (stencil_count m) s.stencils.items
  pub units : AreUnits s.units
  pub heights : AreHeights m.grid.h s.units.h s.heights.items
  pub even : IsEvenGap s.heights.items s.even
  pub cells : AreVertexCells m.grid s.units s.cells.items
  pub total : IsDivisor s.total
  pub by : s.total.by ≡ total_weight m

-- stencils are those of a model, and there is a second to go
pub record AreUsable (m : ModelData) (s : Stencils) : Type 0 where
  pub stencils : AreStencilsOf m s
  pub horizon : 0 < m.grid.horizon

-- usable stencils have the one of a key
pub record HaveStencil (m : ModelData) (s : Stencils) (key : StencilKey) : Type 0 where
  pub usable : AreUsable m s
  pub column : key.column < columns m.grid
  pub advisory : key.advisory < m.grid.advisories
  pub sigma : key.sigma < length m.sigmas

-- usable stencils have one of a vertex, an advisory and a sigma point, by their numbers
pub record HaveVertex (m : ModelData) (s : Stencils) (x a k : ℕ) : Type 0 where
  pub usable : AreUsable m s
  pub vertex : x < vertices m.grid
  pub advisory : a < m.grid.advisories
  pub sigma : k < length m.sigmas

-- the point to which the stencil of a key leads from the vertex of its column at a place of the altitudes
abbrev pub point_from : ModelData → StencilKey → ℕ → Point
point_from m key i = moved m (vertex_at m.grid (vertex_in m.grid key.column i)) key.advisory key.sigma

-- a divisor is the whole weight of the cell above the vertex of a number
pub record IsDivisorAbove (g : GridData) (u : Units) (n : ℕ) (d : Divisor) : Type 0 where
  pub above : (c : VertexCell) × IsVertexCell g u (vertex_at g n) c × (c.divisor ≡ d)

-- a size is that of the cell above the vertex of a number
pub record IsSizeAbove (g : GridData) (u : Units) (n : ℕ) (s : CellSize) : Type 0 where
  pub above : (c : VertexCell) × IsVertexCell g u (vertex_at g n) c × (c.h ≡ s.gap) × (c.divisor ≡ s.divisor)

-- the stencil of a key, its climb in gaps of the altitudes, and the whole weight of the cell above the lowest vertex of the column that it
-- leads to
pub record IsRise (m : ModelData) (s : Stencils) (key : StencilKey) (r : Rise) : Type 0 where
  pub led : IsStencilOf m s.units key.column key.advisory key.sigma r.led
  pub climb : IsInGaps s.even r.led.climb r.climb
  pub divisor : IsDivisorAbove m.grid s.units r.led.column r.divisor
