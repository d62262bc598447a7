-- Cells of a grid in units of its axes.
use Rattle.std.specs.Prelude.{◌≡◌, ℕ, ◌+◌, ◌*◌, ◌<◌, ℤ, List, length, get_or}
use Rattle.acas_spec.specs.Axis.{place_value}
use Rattle.acas_spec.specs.Model.{GridData, vertices}
use Rattle.acas_spec.specs.declared.place.Point.{Point}
use Rattle.acas_spec.specs.declared.place.Vertex.{Vertex}
use Rattle.acas_grid.specs.Axis.{IsCell}
use Rattle.acas_grid.specs.Grid.{vertex_number}
use Rattle.acas_grid.specs.States.{vertex_at}
use Rattle.acas_process.specs.Axis.{distance}
use Rattle.acas_frac.specs.Divisor.{IsDivisor}
use Rattle.acas_step.specs.Ends.{FitsGrid, weight_of_cell}
use Rattle.acas_step.specs.declared.cell.Cell.{Cell}
use Rattle.acas_step.specs.declared.cell.Ends.{Ends}
use Rattle.acas_step_stencils.specs.Units.{IsGapIn}
use Rattle.acas_step_stencils.specs.declared.units.Units.{Units}
use Rattle.acas_step_stencils.specs.declared.stencils.UnitCell.{UnitCell}
use Rattle.acas_step_stencils.specs.declared.vertex_cells.VertexCell.{VertexCell}

-- the cell above a vertex: its places, its gaps in units, and the product of these as a divisor
pub record IsVertexCell (g : GridData) (u : Units) (y : Vertex) (c : VertexCell) : Type 0 where
  pub i : c.i ≡ y.i
  pub j : c.j ≡ y.j
  pub k : c.k ≡ y.k
  pub h : IsGapIn g.h u.h y.i c.h
  pub v0 : IsGapIn g.v0 u.v0 y.j c.v0
  pub v1 : IsGapIn g.v1 u.v1 y.k c.v1
  pub divisor : IsDivisor c.divisor
  pub by : c.divisor.by ≡ c.h * c.v0 * c.v1

-- the cells above all vertices, by the numbers of these
pub record AreVertexCells (g : GridData) (u : Units) (cells : List VertexCell) : Type 0 where
  pub count : length cells ≡ vertices g
  pub each : (n : ℕ) (d : VertexCell) → n < vertices g → IsVertexCell g u (vertex_at g n) (get_or cells n d)

-- the cell of a number on an axis, and the distances from the number to the other end of the cell, in a unit
pub record IsEndsIn (axis : List ℤ) (unit : ℕ) (x : ℤ) (e : Ends) : Type 0 where
  pub cell : IsCell axis e.cell x
  pub lower : unit * e.lower ≡ distance x (place_value axis (e.cell + 1))
  pub upper : unit * e.upper ≡ distance (place_value axis e.cell) x

-- the cell that holds a point, in units
pub record IsRoundIn (g : GridData) (u : Units) (s : Point) (c : Cell) : Type 0 where
  pub h : IsEndsIn g.h u.h s.h c.h
  pub v0 : IsEndsIn g.v0 u.v0 s.v0 c.v0
  pub v1 : IsEndsIn g.v1 u.v1 s.v1 c.v1

-- a cell of a grid, with the number of its lower corner, and its whole weight as a divisor
pub record IsKnownCell (g : GridData) (c : UnitCell) : Type 0 where
  pub fits : FitsGrid g c.cell
  pub base : c.base ≡ vertex_number g (record { i = c.cell.h.cell; j = c.cell.v0.cell; k = c.cell.v1.cell })
  pub divisor : IsDivisor c.divisor
  pub by : c.divisor.by ≡ weight_of_cell c.cell

-- the cell that holds a point, in units, and what is known of it
pub record IsUnitCell (g : GridData) (u : Units) (s : Point) (c : UnitCell) : Type 0 where
  pub round : IsRoundIn g u s c.cell
  pub known : IsKnownCell g c

-- on both rates, a cell holds a point, in units
pub record HoldsRates (g : GridData) (u : Units) (s : Point) (t : Cell) : Type 0 where
  pub v0 : IsEndsIn g.v0 u.v0 s.v0 t.v0
  pub v1 : IsEndsIn g.v1 u.v1 s.v1 t.v1
