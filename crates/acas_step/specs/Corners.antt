-- The corners of the cell that holds a point, with their interpolation weights.
use Rattle.std.specs.Prelude.{◌≡◌, ◌≢◌, ℕ, ◌+◌, ◌*◌, ◌<◌, ℤ, pos, ◌+ℤ◌, ◌*ℤ◌, ◌≤ℤ◌, List, [], ◌∷◌, get_or, fold}
use Rattle.acas_spec.specs.Model.{GridData, vertices}
use Rattle.acas_grid.specs.Grid.{IsLowerCorner, IsVertex, vertex_number}
use Rattle.acas_spec.specs.declared.place.Point.{Point}
use Rattle.acas_spec.specs.declared.place.Vertex.{Vertex}
use Rattle.acas_process.specs.Axis.{gap}
use Rattle.acas_process.specs.Step.{grid_product, share, over_vertices}
use Rattle.acas_step.specs.Sizes.{greatest_weight}
use Rattle.acas_step.specs.declared.cell.Corner.{Corner}

-- the eight corners of the cell whose lower corner is y, lower before upper, the altitude outermost
abbrev pub corners_from : Vertex → List Vertex
corners_from y =
    record { i = y.i; j = y.j; k = y.k }
    ∷ record { i = y.i; j = y.j; k = y.k + 1 }
    ∷ record { i = y.i; j = y.j + 1; k = y.k }
    ∷ record { i = y.i; j = y.j + 1; k = y.k + 1 }
    ∷ record { i = y.i + 1; j = y.j; k = y.k }
    ∷ record { i = y.i + 1; j = y.j; k = y.k + 1 }
    ∷ record { i = y.i + 1; j = y.j + 1; k = y.k }
    ∷ record { i = y.i + 1; j = y.j + 1; k = y.k + 1 }
    ∷ []

-- the product of the three gaps of the cell whose lower corner is y
abbrev pub cell_product : GridData → Vertex → ℕ
cell_product g y = gap g.h y.i * gap g.v0 y.j * gap g.v1 y.k

-- a corner is the vertex y, and its weight over the total is the share of y at the point s over the product of all gaps
pub record HasShare (g : GridData) (s : Point) (total : ℤ) (c : Corner) (y : Vertex) : Type 0 where
  pub vertex : IsVertex g y
  pub number : c.vertex ≡ vertex_number g y
  pub weight : c.weight *ℤ pos (grid_product g) ≡ pos (share g s y) *ℤ total

-- The corners of the cell that holds s, in their order: each has its share, the total is the product of the cell's gaps, and every
-- other vertex has no share.
pub record AreCorners (g : GridData) (s : Point) (corners : List Corner) (total : ℤ) : Type 0 where
  pub lower : Vertex
  pub holds : IsLowerCorner g lower s
  pub product : total ≡ pos (cell_product g lower)
  pub each : (n : ℕ) (d : Corner) (e : Vertex) → n < 8
      → HasShare g s total (get_or corners n d) (get_or (corners_from lower) n e)
  pub others : (y : Vertex) → IsVertex g y
      → ((n : ℕ) (e : Vertex) → n < 8 → get_or (corners_from lower) n e ≢ y) → share g s y ≡ 0

-- the sum of a function of vertex numbers at corners, by their weights
abbrev pub corner_sum : List Corner → (ℕ → ℤ) → ℤ
corner_sum corners f = fold (λ (sum : ℤ) (c : Corner). sum +ℤ c.weight *ℤ f c.vertex) (pos 0) corners

-- Whatever a function's values at the vertices are, its sum at the corners over the total is its sum over all vertices by their shares
-- over the product of all gaps.
pub record IsInterpolation (g : GridData) (s : Point) (corners : List Corner) (total : ℤ) : Type 0 where
  pub sums : (f : ℕ → ℤ) → pos (grid_product g) *ℤ corner_sum corners f
      ≡ total *ℤ over_vertices g (λ y. pos (share g s y) *ℤ f (vertex_number g y))

-- a weight that is not negative, and at most that of the largest cell
pub record IsLight (c : Corner) : Type 0 where
  pub some : pos 0 ≤ℤ c.weight
  pub light : c.weight ≤ℤ pos greatest_weight

-- each corner is a vertex of the grid, no weight is negative, and the weights sum to the total, which is above 0
pub record IsWeighting (g : GridData) (corners : List Corner) (total : ℤ) : Type 0 where
  pub vertices : (n : ℕ) (d : Corner) → n < 8 → (get_or corners n d).vertex < vertices g
  pub weights : (n : ℕ) (d : Corner) → n < 8 → IsLight (get_or corners n d)
  pub sum : corner_sum corners (λ n. pos 1) ≡ total
  pub positive : pos 1 ≤ℤ total
  pub light : total ≤ℤ pos greatest_weight
