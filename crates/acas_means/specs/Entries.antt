-- An entry of a table.
use Rattle.std.specs.Prelude.{◌≡◌, ℕ}
use Rattle.acas_spec.specs.Model.{ModelData}
use Rattle.acas_spec.specs.Table.{Table}
use Rattle.acas_spec.specs.declared.place.Vertex.{Vertex}
use Rattle.acas_grid.specs.States.{state_present, state_vertex}
use Rattle.acas_units.specs.declared.pair.Entry.{Entry}

-- an entry has the two values and the advice of a table with n seconds to go at the vertex x where p is present
pub record IsEntryOf (t : Table) (n p : ℕ) (x : Vertex) (e : Entry) : Type 0 where
  pub upper : e.pair.upper ≡ t.upper n p x
  pub lower : e.pair.lower ≡ t.lower n p x
  pub advice : e.advice ≡ t.advice n p x

-- the same of a state by its number
abbrev pub IsStateEntry : ModelData → Table → ℕ → ℕ → Entry → Type 0
IsStateEntry m t n s e = IsEntryOf t n (state_present m.grid s) (state_vertex m.grid s) e
