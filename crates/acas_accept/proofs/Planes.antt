-- States by their present advisory and vertex.
use Rattle.std.proofs.Common.{◌≡◌, ℕ, ◌+◌, ◌*◌, ◌<◌, List, Option, sym, ◌∙◌, ap, subst, arith}
use Rattle.acas_spec.specs.Model.{GridData, ModelData, states, vertices}
use Rattle.acas_spec.specs.Table.{Table}
use Rattle.acas_spec.specs.declared.place.Vertex.{Vertex}
use Rattle.acas_spec.specs.declared.fault.BoundFault.{BoundFault}
use Rattle.acas_units.specs.declared.pair.Entry.{Entry}
use Rattle.acas_units.specs.declared.pair.Pair.{Pair}
use Rattle.acas_grid.specs.Grid.{state_number}
use Rattle.acas_grid.specs.States.{state_present, state_vertex, vertex_at}
use Rattle.acas_grid.proofs.StateNumbers.{IsVertex-vertex_at, state_present-state_number, state_vertex-state_number, vertex_number-vertex_at}
use Rattle.acas_grid.proofs.Vertices.{row_below}
use Rattle.acas_process.specs.Cost.{MayChoose}
use Rattle.acas_means.specs.Entries.{IsEntryOf}
use Rattle.acas_means.specs.Means.{AreMeansOf}
use Rattle.acas_bounds.specs.Checks.{OfBelow}
use Rattle.acas_bounds.specs.Sound.{bound_fault}
use Rattle.acas_accept.proofs.Steps.{Says}

-- the present advisory of a state's number
pub present_at : (g : GridData) (p v state : ℕ) → v < vertices g → state ≡ state_number g p v → state_present g state ≡ p
present_at g p v state inside is = subst (λ (s : ℕ). state_present g s ≡ p) (sym is) (state_present-state_number g p v inside)

-- its vertex
vertex_there : (g : GridData) (p v state : ℕ) → v < vertices g → state ≡ state_number g p v → state_vertex g state ≡ vertex_at g v
vertex_there g p v state inside is =
    subst (λ (s : ℕ). state_vertex g s ≡ vertex_at g v) (sym is)
    (subst (λ (n : ℕ). state_vertex g (state_number g p n) ≡ vertex_at g v) (vertex_number-vertex_at g v) (state_vertex-state_number g p (vertex_at g v) (IsVertex-vertex_at g v inside)))

pub state_below : (g : GridData) (p v state : ℕ) → p < g.advisories → v < vertices g → state ≡ state_number g p v → state < states g
state_below g p v state known inside is = subst (λ (s : ℕ). s < states g) (sym is) (row_below g.advisories (vertices g) p v known inside)

-- what a check says of the state where p is present at the vertex of a number
pub says_at : (m : ModelData) (means : List Pair) (e : Entry) (n p v state : ℕ) (fault : Option BoundFault) → v < vertices m.grid → state ≡ state_number m.grid p v
    → ((t : Table) → IsEntryOf t n p (vertex_at m.grid v) e → OfBelow (λ k. AreMeansOf m t k means) n → bound_fault m t n p (vertex_at m.grid v) ≡ fault)
    → Says m means e n state fault
says_at m means e n p v state fault inside is says =
    subst (λ (q : ℕ). (t : Table) → IsEntryOf t n q (state_vertex m.grid state) e → OfBelow (λ k. AreMeansOf m t k means) n → bound_fault m t n q (state_vertex m.grid state) ≡ fault) (sym (present_at m.grid p v state inside is))
    (subst (λ (x : Vertex). (t : Table) → IsEntryOf t n p x e → OfBelow (λ k. AreMeansOf m t k means) n → bound_fault m t n p x ≡ fault) (sym (vertex_there m.grid p v state inside is)) says)

pub allowed_at : (m : ModelData) (p v state advice : ℕ) → v < vertices m.grid → state ≡ state_number m.grid p v → MayChoose m p advice → MayChoose m (state_present m.grid state) advice
allowed_at m p v state advice inside is chosen = subst (λ (q : ℕ). MayChoose m q advice) (sym (present_at m.grid p v state inside is)) chosen

-- the number as it is counted
pub numbered : (g : GridData) (p v q width : ℕ) → q ≡ p → width ≡ vertices g → q * width + v ≡ state_number g p v
numbered g p v q width same wide = ap (λ (r : ℕ). r * width + v) same ∙ ap (λ (w : ℕ). p * w + v) wide

-- ---- one after another

pub next_vertex : (g : GridData) (p v : ℕ) → state_number g p v + 1 ≡ state_number g p (v + 1)
next_vertex g p v = omega arith

row_next : (p width : ℕ) → p * width + width ≡ (p + 1) * width + 0
row_next p width = omega arith

pub next_plane : (g : GridData) (p v : ℕ) → v ≡ vertices g → state_number g p v ≡ state_number g (p + 1) 0
next_plane g p v all = subst (λ (w : ℕ). state_number g p w ≡ state_number g (p + 1) 0) (sym all) (row_next p (vertices g))

no_more : (width : ℕ) (count : ℕ) → count * width + 0 ≡ count * width
no_more width count = omega arith

pub last_plane : (g : GridData) (p : ℕ) → p ≡ g.advisories → state_number g p 0 ≡ states g
last_plane g p all = subst (λ (q : ℕ). state_number g q 0 ≡ states g) (sym all) (no_more (vertices g) g.advisories)
