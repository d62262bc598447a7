-- The whole numbers and the tables at the keys of a document.
use Rattle.std.specs.Prelude.{ℕ, List, [], pos, unsigned_abs, Result, Ok}
use Rattle.toml.specs.Data.{Members}
use Rattle.acas_spec.specs.Steps.{◌>>=◌, ◌>>◌, fault_as}
use Rattle.acas_doc.specs.declared.fault.DocFault.{DocFault}
use Rattle.acas_doc.specs.Keys.{table_at, whole_at}
use Rattle.acas_doc.specs.Known.{only_known}
use Rattle.acas_model.specs.declared.fault.ModelFault.{ModelFault}
use Rattle.acas_model.specs.declared.fault.ModelFault.TheVariants.{Doc}

-- a fault of a key is a fault of the model
abbrev pub in_doc : {A : Type 0} → Result A DocFault → Result A ModelFault
in_doc r = fault_as Doc r

-- a whole number at a key that may not be below 0
unfoldable pub number_at : Members → List ℕ → List ℕ → ℕ → ℕ → Result ℕ ModelFault
number_at ms path key least greatest = do
  z ← in_doc (whole_at ms path key (pos least) (pos greatest))
  Ok (unsigned_abs z)

-- the table at a key of the document, which has no other keys than those named
unfoldable pub closed_table : Members → List ℕ → List ℕ → Result Members ModelFault
closed_table doc key known = do
  table ← in_doc (table_at doc [] key)
  in_doc (only_known key known table)
  Ok table
