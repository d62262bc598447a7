-- What each command on tables calls for, by the files of the folder.
use Rattle.std.specs.Prelude.{ℕ, List, [], ◌∷◌, Option}
use Rattle.std.specs.FinMap.{get}
use Rattle.acas_command.specs.Called.{Called, calls_for}
use Rattle.acas_command.specs.Calls.{with_model}
use Rattle.acas_command.specs.Outcome.{Outcome, prints, stores}
use Rattle.acas_table_rows.specs.StoredLine.{compiled_line}
use Rattle.acas_table_rows.specs.TableFile.{compiled_text}
use Rattle.acas_table_rows.specs.ValuesText.{values_text}

-- `values M` prints the compiled table of the model
abbrev pub values_of : Option (List ℕ) → Outcome
values_of file = with_model file (λ digest model. prints (values_text model))

-- `compile M T` stores the text of the compiled table of the model, and prints how large it is
abbrev pub compile_of : Option (List ℕ) → List ℕ → Outcome
compile_of file name = with_model file (λ digest model. stores name (compiled_text digest model) (compiled_line model.grid))

-- the same, by the names of the files
abbrev pub CallsForValues : List ℕ → Called
CallsForValues model = calls_for (model ∷ []) (λ files. values_of (get files model))

abbrev pub CallsForCompile : List ℕ → List ℕ → Called
CallsForCompile model table = calls_for (model ∷ []) (λ files. compile_of (get files model) table)
