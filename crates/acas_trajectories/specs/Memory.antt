-- Policies that remember: what they advise may depend on all states so far.
use Rattle.std.specs.Prelude.{ℕ, List}
use Rattle.acas_spec.specs.Model.{ModelData}
use Rattle.acas_spec.specs.Table.{Policy}
use Rattle.acas_spec.specs.declared.place.Vertex.{Vertex}
use Rattle.acas_process.specs.Cost.{IsPolicy}

-- a state of the decision process: a present advisory at a vertex
pub record GridState : Type 0 where
  pub present : ℕ
  pub vertex : Vertex

-- the state where p is present at the vertex x
abbrev pub grid_state : ℕ → Vertex → GridState
grid_state p x = record { present = p; vertex = x }

-- a policy with memory says what a policy says, for each list of the states before, of which the latest is first
abbrev pub MemoryPolicy : Type 0
MemoryPolicy = List GridState → Policy

-- whatever the states before, what it says may be chosen
pub record IsMemoryPolicy (m : ModelData) (policy : MemoryPolicy) : Type 0 where
  pub allowed : (earlier : List GridState) → IsPolicy m (policy earlier)

-- a policy without memory, as one that says the same whatever the states before
abbrev pub without_memory : Policy → MemoryPolicy
without_memory policy earlier = policy
