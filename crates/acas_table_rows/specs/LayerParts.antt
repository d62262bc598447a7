-- A layer of a table, by its parts.
use Rattle.std.specs.Prelude.{◌≡◌, length}
use Rattle.acas_spec.specs.Model.{GridData, states}
use Rattle.acas_sweep.specs.Handed.{LayerData}
use Rattle.acas_table_rows.specs.declared.table_lines.Layer.{Layer}

-- the layer as a value
abbrev pub layer_data : Layer → LayerData
layer_data layer = record { n = layer.n; pairs = layer.pairs.now; advice = layer.advice.now }

-- there is a pair and an advice for each state
pub record IsWholeLayer (g : GridData) (layer : Layer) : Type 0 where
  pub pairs : length layer.pairs.now ≡ states g
  pub advice : length layer.advice.now ≡ states g
