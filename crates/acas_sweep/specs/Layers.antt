-- All layers of a compiled table, and how many backups they take.
use Rattle.std.specs.Prelude.{◌≡◌, ◌≢◌, ℕ, ◌+◌, ◌*◌, ◌<◌, ◌≤◌, List, get_or}
use Rattle.acas_spec.specs.Model.{GridData, ModelData, states, vertices}
use Rattle.acas_base.specs.Layers.{LayersData, advice_of, pairs_of}
use Rattle.acas_process.specs.Compiled.{compiled}
use Rattle.acas_means.specs.Choices.{choice_count}
use Rattle.acas_means.specs.Layer.{IsLayer}

-- all layers stand, and they are those of the model's compiled table
pub record AreLayers (m : ModelData) (layers : LayersData) : Type 0 where
  pub horizon : layers.horizon ≡ m.grid.horizon
  pub count : layers.count ≡ m.grid.horizon + 1
  pub layer : (n : ℕ) → n ≤ m.grid.horizon → IsLayer m (compiled m) n (pairs_of layers n) (advice_of layers n)

-- above layer 0, each advice of a layer is an advisory
pub record IsAdvised (g : GridData) (n : ℕ) (advice : List ℕ) : Type 0 where
  pub known : (s : ℕ) → s < states g → n ≢ 0 → get_or advice s 0 < g.advisories

-- a layer above layer 0 takes a backup for each vertex and choice
abbrev pub layer_backups : ModelData → ℕ
layer_backups m = vertices m.grid * choice_count m

-- a table has as many layers above layer 0 as the horizon says
abbrev pub backup_count : ModelData → ℕ
backup_count m = m.grid.horizon * layer_backups m
