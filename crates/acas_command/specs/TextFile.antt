-- What reading a text file answers, to any command that goes on from there.
use Rattle.std.specs.Prelude.{◌≡◌, ◌≤◌, ℕ, List, ◌∷◌, length, Option, Some}
use Rattle.std.specs.FinMap.{get}
use Rattle.acas_units.specs.declared.limits.TheConstants.{TEXT_BYTES}
use Rattle.acas_outside.specs.Files.{Files}
use Rattle.acas_outside.specs.Outside.{Outside}
use Rattle.acas_command.specs.Answers.{Answers}
use Rattle.acas_command.specs.Called.{calls_for}
use Rattle.acas_command.specs.Calls.{with_text}
use Rattle.acas_command.specs.Outcome.{Outcome}
use Rattle.acas_command.specs.declared.status.Cause.{Cause}
use Rattle.acas_command.specs.declared.status.FileRole.{FileRole}

-- the file has these bytes, which are not too many
pub record IsTextFile (file : Option (List ℕ)) (bytes : List ℕ) : Type 0 where
  pub there : file ≡ Some bytes
  pub short : length bytes ≤ TEXT_BYTES

-- whatever goes on from the file, to other files or not, is answered so, and leaves the output as it was
abbrev pub RefusesText : FileRole → List ℕ → Cause → (Option (List ℕ) → ℕ → Outside) → (Option (List ℕ) → ℕ → Outside) → Type 0
RefusesText role name cause before after = (more : List (List ℕ)) (rest : Files → List ℕ → Outcome) (written : Option (List ℕ)) (output_faults : ℕ) →
    Answers (calls_for (name ∷ more) (λ files. with_text role (get files name) (rest files))) cause (before written output_faults) (after written output_faults)
