-- Which cells under an advice are advisory cells, and their order.
use Rattle.std.specs.Prelude.{◌≡◌, ℕ, ◌+◌, ◌<◌, ◌⊎◌, List, [], ◌∷◌}
use Rattle.std.specs.Ordering.{nat_cmp}
use Rattle.std.specs.Cmp.Lexicographic.{slice_cmp}
use Rattle.std.specs.declared.cmp.Ordering.{Ordering}
use Rattle.acas_spec.specs.Model.{ModelData}
use Rattle.acas_spec.specs.declared.place.Vertex.{Vertex}
use Rattle.acas_base.specs.Advices.{AdvicesData}
use Rattle.acas_cells.specs.Cells.{Cell, IsCellOf, cell_at}
use Rattle.acas_cells.specs.Corners.{advice_at_vertex}
use Rattle.acas_cells.specs.declared.name.CellName.{CellName}

-- the cell of a name
abbrev pub cell_of : CellName → Cell
cell_of name = cell_at name.n name.present name.i name.j name.k

-- the place of the lower corner, or the next
abbrev pub IsPlaceOrNext : ℕ → ℕ → Type 0
IsPlaceOrNext place p = (p ≡ place) ⊎ (p ≡ place + 1)

-- the vertex is a corner of the cell
pub record IsCorner (c : Cell) (y : Vertex) : Type 0 where
  pub i : IsPlaceOrNext c.i y.i
  pub j : IsPlaceOrNext c.j y.j
  pub k : IsPlaceOrNext c.k y.k

-- the advice is tabled at a corner of the cell
pub record IsTabledAt (m : ModelData) (a : AdvicesData) (c : Cell) (advice : ℕ) : Type 0 where
  pub corner : Vertex
  pub is_corner : IsCorner c corner
  pub tabled : advice_at_vertex m a c.n c.present corner ≡ advice

-- an advisory cell: a cell of the model under an advice that is not clear of conflict and is tabled at a corner
pub record IsAdvisoryCell (m : ModelData) (a : AdvicesData) (name : CellName) : Type 0 where
  pub cell : IsCellOf m (cell_of name)
  pub not_clear : 0 < name.advice
  pub tabled : IsTabledAt m a (cell_of name) name.advice

-- the five numbers of a cell
abbrev pub places : Cell → List ℕ
places c = c.n ∷ c.present ∷ c.i ∷ c.j ∷ c.k ∷ []

-- cells by their numbers, the first that differs deciding
abbrev pub by_places : Cell → Cell → Ordering
by_places x y = slice_cmp nat_cmp (places x) (places y)

-- the six numbers of a name
abbrev pub numbers : CellName → List ℕ
numbers name = name.n ∷ name.present ∷ name.i ∷ name.j ∷ name.k ∷ name.advice ∷ []

-- names in the same way
abbrev pub by_numbers : CellName → CellName → Ordering
by_numbers x y = slice_cmp nat_cmp (numbers x) (numbers y)
