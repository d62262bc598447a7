-- What a command calls for, behind the files that it has read.
use Rattle.std.proofs.Common.{◌≡◌, ℕ, List, Option, sym, ap, ◌∙◌}
use Rattle.std.specs.Prelude.{IfSome}
use Rattle.std.specs.FinMap.{get}
use Rattle.acas_spec.specs.Model.{ModelData}
use Rattle.acas_outside.specs.Files.{Files, Given}
use Rattle.acas_command.specs.Called.{calls_for}
use Rattle.acas_command.specs.Calls.{with_model}
use Rattle.acas_command.specs.ModelFile.{IsModelFile}
use Rattle.acas_command.specs.Outcome.{Outcome}
use Rattle.acas_command.proofs.Behind.{Refers, refers-same, told-map}
use Rattle.acas_command.proofs.Refused.{with_model-read}

-- what goes on behind the model's file
pub with_model-file : (file : Option (List ℕ)) (digest : List ℕ) (m : ModelData) (rest : List ℕ → ModelData → Outcome) → IsModelFile file digest m → with_model file rest ≡ rest digest m
with_model-file file digest m rest is =
    ap (λ (f : Option (List ℕ)). with_model f rest) is.text.there ∙ with_model-read is.bytes m rest is.text.short is.read ∙ ap (λ (d : List ℕ). rest d m) (sym is.hashed)

pub called-model : (holds : Option Files) (name digest : List ℕ) (m : ModelData) (rest : Files → List ℕ → ModelData → Outcome) → Given holds name (λ file. IsModelFile file digest m)
    → IfSome holds (λ files. rest files digest m ≡ with_model (get files name) (rest files))
called-model holds name digest m rest read = told-map holds _ _ (λ files is. sym (with_model-file (get files name) digest m (rest files) is)) read

-- what ends the rest behind the model's file ends the command
pub to-model : (names : List (List ℕ)) (holds : Option Files) (name digest : List ℕ) (m : ModelData) (rest : Files → List ℕ → ModelData → Outcome) → Given holds name (λ file. IsModelFile file digest m)
    → IfSome holds (λ files. Refers files (rest files digest m) (calls_for names (λ fs. with_model (get fs name) (rest fs))))
to-model names holds name digest m rest read = told-map holds _ _ (λ files same. refers-same names files (rest files digest m) (λ fs. with_model (get fs name) (rest fs)) same)
    (called-model holds name digest m rest read)
