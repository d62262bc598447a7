-- A file of boxes or of an encounter.
use Rattle.std.specs.Prelude.{◌≡◌, ℕ, List, Option, Result, Ok}
use Rattle.acas_doc.specs.declared.input_fault.InputFault.{InputFault}
use Rattle.acas_command.specs.TextFile.{IsTextFile}

-- the file is a text that is read as this
pub record IsInputFile {A : Type 0} (read : List ℕ → Result A InputFault) (file : Option (List ℕ)) (said : A) : Type 0 where
  pub bytes : List ℕ
  pub text : IsTextFile file bytes
  pub is_read : read bytes ≡ Ok said
