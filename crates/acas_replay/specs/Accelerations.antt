-- The accelerations of one aircraft, second by second.
use Rattle.std.specs.Prelude.{ℕ, List, [], ℤ, Result}
use Rattle.toml.specs.Data.{Members}
use Rattle.acas_spec.specs.Steps.{◌>>=◌}
use Rattle.acas_doc.specs.Keys.{list_at, whole_items}
use Rattle.acas_doc.specs.Paths.{key_path}
use Rattle.acas_doc.specs.declared.input_fault.InputFault.{InputFault}
use Rattle.acas_doc.specs.Input.{in_doc}
use Rattle.acas_replay.specs.declared.limits.TheConstants.{LEAST_ACCELERATION, GREATEST_ACCELERATION}

-- a list at a key of the document, of so many accelerations, each within the limits
unfoldable pub accelerations_at : Members → List ℕ → ℕ → ℕ → Result (List ℤ) InputFault
accelerations_at doc key least greatest = do
  items ← in_doc (list_at doc [] key least greatest)
  in_doc (whole_items (key_path [] key) LEAST_ACCELERATION GREATEST_ACCELERATION items)
