-- What reading a table's file answers, to any command that goes on from there.
use Rattle.std.specs.Prelude.{◌≡◌, ℕ, List, ◌∷◌, Option, None, Some}
use Rattle.std.specs.FinMap.{get}
use Rattle.acas_spec.specs.Model.{ModelData}
use Rattle.acas_base.specs.Advices.{AdvicesData, AreAdvices, AreAdvicesOf}
use Rattle.acas_base.specs.Layers.{LayersData}
use Rattle.acas_outside.specs.Bytes.{IsBytes}
use Rattle.acas_outside.specs.Files.{Files}
use Rattle.acas_outside.specs.Outside.{Outside}
use Rattle.acas_accept.specs.Answers.{HasAdvices, HasLayers}
use Rattle.acas_accept.specs.Refusals.{first_refusal}
use Rattle.acas_command.specs.Answers.{Answers}
use Rattle.acas_command.specs.Called.{calls_for}
use Rattle.acas_command.specs.ModelFile.{IsModelFile}
use Rattle.acas_table_file.specs.Calls.{with_table}
use Rattle.acas_command.specs.Outcome.{Outcome}
use Rattle.acas_command.specs.declared.status.Cause.{Cause}

-- the file is an accepted table of the model whose text has this digest, and what was kept of it has this relation to its bytes
pub record IsAcceptedFile {A : Type 0} (Has : ModelData → List ℕ → A → Type 0) (model : ModelData) (digest : List ℕ) (file : Option (List ℕ)) (kept : A) : Type 0 where
  pub bytes : List ℕ
  pub there : file ≡ Some bytes
  pub accepted : first_refusal model digest bytes ≡ None
  pub whole : IsBytes bytes
  pub held : Has model bytes kept

-- such a file, whose advices with at least one second to go these are
abbrev pub IsTableFile : ModelData → List ℕ → Option (List ℕ) → AdvicesData → Type 0
IsTableFile model digest file advices = IsAcceptedFile HasAdvices model digest file advices

-- such a file, whose layers these are
abbrev pub IsLayersFile : ModelData → List ℕ → Option (List ℕ) → LayersData → Type 0
IsLayersFile model digest file layers = IsAcceptedFile HasLayers model digest file layers

-- M is the file of a model, T that of an accepted table of it, and these are the table's advices
pub record IsTableOf (model table : List ℕ) (files : Files) (m : ModelData) (advices : AdvicesData) : Type 0 where
  pub digest : List ℕ
  pub model_file : IsModelFile (get files model) digest m
  pub table_file : IsTableFile m digest (get files table) advices
  pub fits : AreAdvicesOf m advices
  pub known : AreAdvices advices

-- whatever goes on from the table's file, to other files or not, is answered so, and leaves the output as it was
abbrev pub RefusesTable : ModelData → List ℕ → List ℕ → Cause → (Option (List ℕ) → ℕ → Outside) → (Option (List ℕ) → ℕ → Outside) → Type 0
RefusesTable model digest name cause before after = (more : List (List ℕ)) (rest : Files → List ℕ → Outcome) (written : Option (List ℕ)) (output_faults : ℕ) →
    Answers (calls_for (name ∷ more) (λ files. with_table model digest (get files name) (rest files))) cause (before written output_faults) (after written output_faults)
