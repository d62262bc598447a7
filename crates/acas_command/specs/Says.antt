-- A file that says a model, and one that says something beside it.
use Rattle.std.specs.Prelude.{◌≡◌, ◌≤◌, ℕ, List, length, Some}
use Rattle.std.specs.FinMap.{get}
use Rattle.sha2.specs.Sha256.{sha256}
use Rattle.acas_units.specs.declared.limits.TheConstants.{TEXT_BYTES}
use Rattle.acas_spec.specs.Model.{ModelData}
use Rattle.acas_model.specs.Text.{IsModelText}
use Rattle.acas_outside.specs.Files.{Files}

-- the file of this name has these bytes, which are not too many and say the model m
pub record SaysModel (files : Files) (name bytes : List ℕ) (m : ModelData) : Type 0 where
  pub file : get files name ≡ Some bytes
  pub short : length bytes ≤ TEXT_BYTES
  pub text : IsModelText bytes m

-- M says the model m, and the other file, which is not too long, says this beside it
pub record SaysBeside {A : Type 0} (IsText : ModelData → List ℕ → A → Type 0) (model input : List ℕ) (files : Files) (m : ModelData) (said : A) : Type 0 where
  pub bytes : List ℕ
  pub given : List ℕ
  pub says : SaysModel files model bytes m
  pub file : get files input ≡ Some given
  pub short : length given ≤ TEXT_BYTES
  pub text : IsText m given said

-- M says a model, beside which, and beside the digest of its text, the other file says nothing
pub record RejectsBeside {A : Type 0} (IsText : ModelData → List ℕ → List ℕ → A → Type 0) (model input : List ℕ) (files : Files) : Type 0 where
  pub bytes : List ℕ
  pub m : ModelData
  pub given : List ℕ
  pub says : SaysModel files model bytes m
  pub file : get files input ≡ Some given
  pub none : (said : A) → IsText m (sha256 bytes) given said → ⊥
