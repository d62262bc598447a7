-- What reading a model's file answers, to any command that goes on from there.
use Rattle.std.specs.Prelude.{◌≡◌, ℕ, List, ◌∷◌, Option, Ok}
use Rattle.std.specs.FinMap.{get}
use Rattle.sha2.specs.Sha256.{sha256}
use Rattle.acas_spec.specs.Model.{ModelData}
use Rattle.acas_model.specs.Whole.{model_of}
use Rattle.acas_outside.specs.Files.{Files}
use Rattle.acas_outside.specs.Outside.{Outside}
use Rattle.acas_command.specs.Answers.{Answers}
use Rattle.acas_command.specs.Called.{calls_for}
use Rattle.acas_command.specs.Calls.{with_model}
use Rattle.acas_command.specs.Outcome.{Outcome}
use Rattle.acas_command.specs.TextFile.{IsTextFile}
use Rattle.acas_command.specs.declared.status.Cause.{Cause}

-- the file is a text of this digest that says this model
pub record IsModelFile (file : Option (List ℕ)) (digest : List ℕ) (model : ModelData) : Type 0 where
  pub bytes : List ℕ
  pub text : IsTextFile file bytes
  pub read : model_of bytes ≡ Ok model
  pub hashed : digest ≡ sha256 bytes

-- whatever goes on from the model's file, to other files or not, is answered so, and leaves the output as it was
abbrev pub RefusesModel : List ℕ → Cause → (Option (List ℕ) → ℕ → Outside) → (Option (List ℕ) → ℕ → Outside) → Type 0
RefusesModel name cause before after = (more : List (List ℕ)) (rest : Files → List ℕ → ModelData → Outcome) (written : Option (List ℕ)) (output_faults : ℕ) →
    Answers (calls_for (name ∷ more) (λ files. with_model (get files name) (rest files))) cause (before written output_faults) (after written output_faults)
