-- Files that say a model, and what a command goes on with behind them.
use Rattle.std.proofs.Common.{◌≡◌, ℕ, List, Option, ap, ◌∙◌}
use Rattle.std.specs.FinMap.{get}
use Rattle.sha2.specs.Sha256.{sha256}
use Rattle.acas_spec.specs.Model.{ModelData}
use Rattle.acas_model.proofs.Said.{said}
use Rattle.acas_model.proofs.Understood.{understood}
use Rattle.acas_outside.specs.Files.{Files}
use Rattle.acas_command.specs.Calls.{with_model}
use Rattle.acas_command.specs.ModelFile.{IsModelFile}
use Rattle.acas_command.specs.Outcome.{Outcome}
use Rattle.acas_command.specs.Says.{SaysModel}
use Rattle.acas_command.proofs.Refused.{IsBehindModel, with_model-read}

-- the file that a command was read behind says its model
pub says-model : (files : Files) (name : List ℕ) (rest : List ℕ → ModelData → Outcome) (b : IsBehindModel (get files name) rest) → SaysModel files name b.bytes b.m
says-model files name rest b = record { file = b.there; short = b.short; text = said b.bytes b.m b.read }

-- so does a model's file that was read
pub file-says : (files : Files) (name digest : List ℕ) (m : ModelData) (f : IsModelFile (get files name) digest m) → SaysModel files name f.bytes m
file-says files name digest m f = record { file = f.text.there; short = f.text.short; text = said f.bytes m f.read }

-- what goes on behind a file that says a model
pub read-model : (files : Files) (name bytes : List ℕ) (m : ModelData) (rest : List ℕ → ModelData → Outcome) → SaysModel files name bytes m → with_model (get files name) rest ≡ rest (sha256 bytes) m
read-model files name bytes m rest says =
    ap (λ (file : Option (List ℕ)). with_model file rest) says.file ∙ with_model-read bytes m rest says.short (understood bytes m says.text)
