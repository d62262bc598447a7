-- Layers that stand one after the other, from no second to go up.
use Rattle.std.specs.Prelude.{ℕ, ◌+◌, ◌*◌, ◌<◌, List}
use Rattle.acas_spec.specs.Model.{ModelData, states}
use Rattle.acas_units.specs.declared.pair.Pair.{Pair}
use Rattle.acas_process.specs.Compiled.{compiled}
use Rattle.acas_means.specs.Entries.{IsStateEntry}
use Rattle.acas_sweep.specs.Entries.{listed_entry}

-- the layers below a number of seconds to go are those of the compiled table
pub record AreBelow (m : ModelData) (n : ℕ) (pairs : List Pair) (advice : List ℕ) : Type 0 where
  pub entry : (k s : ℕ) → k < n → s < states m.grid
      → IsStateEntry m (compiled m) k s (listed_entry pairs advice (k * states m.grid + s))
