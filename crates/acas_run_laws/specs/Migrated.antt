-- What a run of `migrate` writes.
use Rattle.std.specs.Prelude.{◌≡◌, ℕ, List, None, Some}
use Rattle.std.specs.FinMap.{get}
use Rattle.acas_spec.specs.Model.{ModelData}
use Rattle.acas_outside.specs.Files.{Files}
use Rattle.acas_accept.specs.Refusals.{first_refusal}
use Rattle.acas_table_text.specs.Shape.{shape_of}
use Rattle.acas_table_text.specs.Tables.{as_layered}
use Rattle.acas_command.specs.ModelFile.{IsModelFile}

-- M is the file of a model, T1 that of an accepted table of it, and this is the text in version 2 of that table
pub record IsMigratedText (model table : List ℕ) (files : Files) (text : List ℕ) : Type 0 where
  pub digest : List ℕ
  pub m : ModelData
  pub given : List ℕ
  pub model_file : IsModelFile (get files model) digest m
  pub table_file : get files table ≡ Some given
  pub accepted : first_refusal m digest given ≡ None
  pub is : text ≡ as_layered digest (shape_of m.grid) given
