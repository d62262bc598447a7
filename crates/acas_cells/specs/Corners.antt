-- What a table advises at the corners of a cell, and the cells under each advice, in order.
use Rattle.std.specs.Prelude.{ℕ, ◌+◌, ◌==◌, ◌&&◌, not, if◌then◌else◌, Bool, List, [], ◌∷◌, map}
use Rattle.std.specs.List.{flat_map, list_any, list_all}
use Rattle.acas_spec.specs.Model.{ModelData}
use Rattle.acas_spec.specs.declared.place.Vertex.{Vertex}
use Rattle.acas_grid.specs.Grid.{state_number, vertex_number}
use Rattle.acas_base.specs.Advices.{AdvicesData, advice_at}
use Rattle.acas_cells.specs.Cells.{Cell, below, cells_of}
use Rattle.acas_cells.specs.declared.name.CellName.{CellName}

abbrev pub vertex_at : ℕ → ℕ → ℕ → Vertex
vertex_at i j k = record { i = i; j = j; k = k }

-- what is tabled in layer n + 1 under a present advisory at a vertex
abbrev pub advice_at_vertex : ModelData → AdvicesData → ℕ → ℕ → Vertex → ℕ
advice_at_vertex m a n present y = advice_at a (n + 1) (state_number m.grid present (vertex_number m.grid y))

-- a place of an axis and the next
abbrev pub both : ℕ → List ℕ
both place = place ∷ (place + 1) ∷ []

-- the eight corners of a cell whose lower corner has the places i, j, k
abbrev pub corners : ℕ → ℕ → ℕ → List Vertex
corners i j k = flat_map (λ x. flat_map (λ y. map (λ z. vertex_at x y z) (both k)) (both j)) (both i)

-- the advices at them
abbrev pub corner_advices : ModelData → AdvicesData → Cell → List ℕ
corner_advices m a c = map (λ y. advice_at_vertex m a c.n c.present y) (corners c.i c.j c.k)

-- the advice is one of them
abbrev pub is_at_corner : ModelData → AdvicesData → Cell → ℕ → Bool
is_at_corner m a c advice = list_any (λ b. advice == b) (corner_advices m a c)

-- all of them are clear of conflict
abbrev pub is_clear_cell : ModelData → AdvicesData → Cell → Bool
is_clear_cell m a c = list_all (λ b. b == 0) (corner_advices m a c)

-- the cell under an advice
abbrev pub under : Cell → ℕ → CellName
under c advice = record { n = c.n; present = c.present; i = c.i; j = c.j; k = c.k; advice = advice }

-- an advice that is not clear of conflict and is tabled at a corner
abbrev pub is_advised : ModelData → AdvicesData → Cell → ℕ → Bool
is_advised m a c advice = not (advice == 0) && is_at_corner m a c advice

-- the cell under each such advice, in the order of the advices
abbrev pub names_at : ModelData → AdvicesData → Cell → List CellName
names_at m a c = below m.grid.advisories (λ advice. if is_advised m a c advice then under c advice ∷ [] else [])

-- the advisory cells of a model and its advices, in order
abbrev pub advisory_cells : ModelData → AdvicesData → List CellName
advisory_cells m a = flat_map (names_at m a) (cells_of m)
