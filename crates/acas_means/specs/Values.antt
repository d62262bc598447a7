-- The value of a choice, with its own cost, and how many backups are counted.
use Rattle.std.specs.Prelude.{ℕ, ℤ, ◌+ℤ◌, List}
use Rattle.acas_spec.specs.Model.{ModelData}
use Rattle.acas_spec.specs.Table.{Values}
use Rattle.acas_spec.specs.declared.parts.Choice.{Choice}
use Rattle.acas_spec.specs.declared.place.Vertex.{Vertex}
use Rattle.acas_grid.specs.States.{vertex_at}
use Rattle.acas_process.specs.Values.{mean_value, millionths}
use Rattle.acas_means.specs.Layer.{layer_values}
use Rattle.acas_units.specs.declared.pair.Pair.{Pair}
use Rattle.acas_means.specs.declared.layer.Side.{Side}
use Rattle.acas_means.specs.declared.layer.Side.TheVariants.{Upper, Lower}

-- the mean of one side of a layer at a vertex under an advisory, by their numbers
abbrev pub layer_mean : (ℤ → ℤ → ℤ) → ModelData → Side → List Pair → ℕ → ℕ → ℤ
layer_mean round m side below vertex a = mean_value round m (layer_values side m.grid below) (vertex_at m.grid vertex) a

-- the mean of the layer below under the chosen advisory, and the cost of the choice in millionths
abbrev pub value_with_cost : (ℤ → ℤ → ℤ) → ModelData → Values → Vertex → Choice → ℤ
value_with_cost round m below x c = mean_value round m below x c.advisory +ℤ millionths c.cost

-- an upper value counts one backup, a lower one none
abbrev pub counted : Side → ℕ
counted Upper = 1
counted Lower = 0
