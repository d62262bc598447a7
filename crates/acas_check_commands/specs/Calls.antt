-- What the commands on stored tables call for, by the files of the folder.
use Rattle.std.specs.Prelude.{ℕ, List, [], ◌∷◌, Option}
use Rattle.std.specs.FinMap.{get}
use Rattle.acas_table_text.specs.Shape.{shape_of}
use Rattle.acas_table_text.specs.Tables.{as_layered}
use Rattle.acas_command.specs.Called.{Called, calls_for}
use Rattle.acas_command.specs.Calls.{with_model}
use Rattle.acas_table_file.specs.Calls.{with_table}
use Rattle.acas_command.specs.Outcome.{Outcome, prints, stores}
use Rattle.acas_check_commands.specs.AcceptedLine.{accepted_line}
use Rattle.acas_table_rows.specs.StoredLine.{migrated_line}

-- `check M T` prints how large the accepted table is
abbrev pub check_of : Option (List ℕ) → Option (List ℕ) → Outcome
check_of file table = with_model file (λ digest model. with_table model digest table (λ bytes. prints (accepted_line model.grid)))

-- `migrate M T1 T2` stores the text in version 2 of the accepted table, and prints how large it is
abbrev pub migrate_of : Option (List ℕ) → Option (List ℕ) → List ℕ → Outcome
migrate_of file table name =
    with_model file (λ digest model. with_table model digest table (λ bytes.
    stores name (as_layered digest (shape_of model.grid) bytes) (migrated_line model.grid)))

-- the same, by the names of the files; `migrate` does not read the one that it stores
abbrev pub CallsForCheck : List ℕ → List ℕ → Called
CallsForCheck model table = calls_for (model ∷ table ∷ []) (λ files. check_of (get files model) (get files table))

abbrev pub CallsForMigrate : List ℕ → List ℕ → List ℕ → Called
CallsForMigrate model table target = calls_for (model ∷ table ∷ []) (λ files. migrate_of (get files model) (get files table) target)
