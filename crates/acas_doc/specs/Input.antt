-- The version of a document, and the faults of its keys.
use Rattle.std.specs.Prelude.{[], codes, ℤ, Result}
use Rattle.toml.specs.Data.{Members}
use Rattle.acas_spec.specs.Steps.{fault_as}
use Rattle.acas_doc.specs.declared.fault.DocFault.{DocFault}
use Rattle.acas_doc.specs.Keys.{whole_at}
use Rattle.acas_doc.specs.declared.input.TheConstants.{INPUT_VERSION}
use Rattle.acas_doc.specs.declared.input_fault.InputFault.{InputFault}
use Rattle.acas_doc.specs.declared.input_fault.InputFault.TheVariants.{Doc}

-- a fault of a key is a fault of the input
abbrev pub in_doc : {A : Type 0} → Result A DocFault → Result A InputFault
in_doc r = fault_as Doc r

-- the version, of which there is one
unfoldable pub version_of : Members → Result ℤ InputFault
version_of doc = in_doc (whole_at doc [] (codes "version") INPUT_VERSION INPUT_VERSION)
