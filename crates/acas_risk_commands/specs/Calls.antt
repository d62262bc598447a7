-- What `risk` calls for, by the files of the folder.
use Rattle.std.specs.Prelude.{ℕ, List, [], ◌∷◌, Option}
use Rattle.std.specs.FinMap.{get}
use Rattle.acas_accept.specs.GivenTable.{given_table}
use Rattle.acas_command.specs.Called.{Called, calls_for}
use Rattle.acas_command.specs.Calls.{with_model}
use Rattle.acas_command.specs.Outcome.{Outcome, prints}
use Rattle.acas_table_file.specs.Calls.{with_table}
use Rattle.acas_risk.specs.RiskText.{risk_text}

-- `risk M T` prints the chances and the costs of what the accepted table advises
abbrev pub risk_of : Option (List ℕ) → Option (List ℕ) → Outcome
risk_of file table =
    with_model file (λ digest model. with_table model digest table (λ bytes.
    prints (risk_text model (given_table model.grid bytes).advice)))

-- the same, by the names of the files
abbrev pub CallsForRisk : List ℕ → List ℕ → Called
CallsForRisk model table = calls_for (model ∷ table ∷ []) (λ files. risk_of (get files model) (get files table))
