-- The advisory that a key names.
use Rattle.std.specs.Prelude.{ℕ, List, codes, Result}
use Rattle.toml.specs.Data.{Members}
use Rattle.acas_spec.specs.Steps.{◌>>=◌}
use Rattle.acas_spec.specs.Model.{ModelData}
use Rattle.acas_doc.specs.Values.{or_fault}
use Rattle.acas_doc.specs.Keys.{text_at}
use Rattle.acas_doc.specs.declared.input_fault.InputFault.{InputFault}
use Rattle.acas_doc.specs.declared.input_fault.InputFault.TheVariants.{UnknownName}
use Rattle.acas_doc.specs.Input.{in_doc}
use Rattle.acas_model.specs.Choices.{named}

-- the key `advisory` holds a text, and the text is an advisory's name
unfoldable pub advisory_at : ModelData → Members → List ℕ → ℕ → Result ℕ InputFault
advisory_at m table path place = do
  name ← in_doc (text_at table path (codes "advisory"))
  or_fault (UnknownName place) (named m.advisories name)
