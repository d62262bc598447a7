-- What the inner functions say of a cell: its ends on the three axes.
use Rattle.std.specs.Prelude.{◌≡◌, ℕ, suc, ◌+◌, ◌*◌, ◌<◌, ◌≤◌, ℤ, pos, ◌+ℤ◌, ◌*ℤ◌, List, length}
use Rattle.acas_units.specs.declared.limits.TheConstants.{GREATEST_VERTICES}
use Rattle.acas_spec.specs.Axis.{place_value}
use Rattle.acas_spec.specs.Model.{GridData, vertices}
use Rattle.acas_grid.specs.Axis.{IsCell}
use Rattle.acas_grid.specs.Grid.{vertex_number}
use Rattle.acas_spec.specs.declared.place.Point.{Point}
use Rattle.acas_spec.specs.declared.place.Vertex.{Vertex}
use Rattle.acas_process.specs.Axis.{distance}
use Rattle.acas_step.specs.Sizes.{altitude_gap, greatest_weight, rate_gap}
use Rattle.acas_step.specs.declared.cell.Cell.{Cell}
use Rattle.acas_step.specs.declared.cell.Corner.{Corner}
use Rattle.acas_step.specs.declared.cell.Ends.{Ends}
use Rattle.acas_step.specs.declared.cell.End.{End}
use Rattle.acas_step.specs.declared.cell.End.TheVariants.{Upper, Lower}

-- the cell of a number on an axis, and the distances from the number to the other end of the cell
pub record IsEnds (axis : List ℤ) (x : ℤ) (e : Ends) : Type 0 where
  pub cell : IsCell axis e.cell x
  pub lower : e.lower ≡ distance x (place_value axis (e.cell + 1))
  pub upper : e.upper ≡ distance (place_value axis e.cell) x

-- the cell that holds a point
pub record IsRound (g : GridData) (s : Point) (c : Cell) : Type 0 where
  pub h : IsEnds g.h s.h c.h
  pub v0 : IsEnds g.v0 s.v0 c.v0
  pub v1 : IsEnds g.v1 s.v1 c.v1

-- a cell of an axis, whose gap is at most so large
pub record FitsAxis (axis : List ℤ) (most : ℕ) (e : Ends) : Type 0 where
  pub place : e.cell + 1 < length axis
  pub short : length axis ≤ GREATEST_VERTICES
  pub narrow : e.lower + e.upper ≤ most

-- a cell of a model's grid
pub record FitsGrid (g : GridData) (c : Cell) : Type 0 where
  pub h : FitsAxis g.h altitude_gap c.h
  pub v0 : FitsAxis g.v0 rate_gap c.v0
  pub v1 : FitsAxis g.v1 rate_gap c.v1

-- the place at one end of a cell, and its weight
abbrev pub place_on : Ends → End → ℕ
place_on e Lower = e.cell
place_on e Upper = e.cell + 1

abbrev pub weight_on : Ends → End → ℕ
weight_on e Lower = e.lower
weight_on e Upper = e.upper

-- the vertex at these ends of a cell, and its weight
abbrev pub vertex_on : Cell → End → End → End → Vertex
vertex_on c h v0 v1 = record { i = place_on c.h h; j = place_on c.v0 v0; k = place_on c.v1 v1 }

abbrev pub weight_of_corner : Cell → End → End → End → ℕ
weight_of_corner c h v0 v1 = weight_on c.h h * weight_on c.v0 v0 * weight_on c.v1 v1

-- the corner at these ends of a cell
pub record IsCorner (g : GridData) (cell : Cell) (h v0 v1 : End) (c : Corner) : Type 0 where
  pub vertex : c.vertex ≡ vertex_number g (vertex_on cell h v0 v1)
  pub weight : c.weight ≡ pos (weight_of_corner cell h v0 v1)
  pub below : c.vertex < vertices g
  pub light : weight_of_corner cell h v0 v1 ≤ greatest_weight

-- what the weights of a cell's corners sum to
abbrev pub weight_of_cell : Cell → ℕ
weight_of_cell c = (c.h.lower + c.h.upper) * (c.v0.lower + c.v0.upper) * (c.v1.lower + c.v1.upper)

-- a function of places at the two ends of a cell, by their weights
abbrev pub at_both : Ends → (ℕ → ℤ) → ℤ
at_both e f = pos e.lower *ℤ f e.cell +ℤ pos e.upper *ℤ f (suc e.cell)

-- the same on three axes: a sum over the corners of a cell by their weights
abbrev pub over_ends : Cell → (ℕ → ℕ → ℕ → ℤ) → ℤ
over_ends t z = at_both t.h (λ i. at_both t.v0 (λ j. at_both t.v1 (λ k. z i j k)))

-- the number of the column at the lower corner of a cell
abbrev pub column_of : GridData → Cell → ℕ
column_of g t = t.v0.cell * length g.v1 + t.v1.cell
