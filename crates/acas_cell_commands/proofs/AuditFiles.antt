-- What an audit goes on with behind its files.
use Rattle.std.proofs.Common.{◌≡◌, ℕ, List, [], ◌∷◌, Option, None, refl, sym, subst}
use Rattle.std.specs.Prelude.{IfSome}
use Rattle.std.specs.FinMap.{get}
use Rattle.acas_spec.specs.Model.{ModelData}
use Rattle.acas_base.specs.Advices.{AdvicesData, AreAdvices, AreAdvicesOf}
use Rattle.acas_outside.specs.Files.{Files, Given}
use Rattle.acas_command.specs.ModelFile.{IsModelFile}
use Rattle.acas_command.specs.Outcome.{Outcome, prints}
use Rattle.acas_command.proofs.Files.{with_model-file}
use Rattle.acas_command.proofs.Reports.{no_file-model, refers-report}
use Rattle.acas_table_file.specs.AcceptedFile.{IsTableFile, IsTableOf}
use Rattle.acas_table_file.specs.Calls.{with_table}
use Rattle.acas_table_file.proofs.Files.{no_file-table}
use Rattle.acas_report_lines.specs.declared.counts.Which.{Which}
use Rattle.acas_command.proofs.Behind.{Refers, told-both}
use Rattle.acas_cell_commands.specs.AuditCalls.{CallsForAudit, IsAuditBegun, IsAuditText, audit_looks_at}

-- looking at the files stores nothing
pub no_file-audit : (model table : List ℕ) (files : Files) → (audit_looks_at model table files).file ≡ None
no_file-audit model table files =
    no_file-model (get files model) (λ digest m. with_table m digest (get files table) (λ bytes. prints [])) (λ digest m. no_file-table m digest (get files table) (λ bytes. prints []) (λ bytes. refl))

-- behind the model's file
pub audit-behind_model : (model table digest : List ℕ) (m : ModelData) (files : Files) → IsModelFile (get files model) digest m
    → with_table m digest (get files table) (λ bytes. prints []) ≡ audit_looks_at model table files
audit-behind_model model table digest m files is = sym (with_model-file (get files model) digest m (λ d n. with_table n d (get files table) (λ bytes. prints [])) is)

-- what refuses the command as it looks at its files is answered by it
pub audit-refers : (model table : List ℕ) (which : Which) (files : Files) (outcome_of : Files → Outcome) → outcome_of files ≡ audit_looks_at model table files
    → Refers files (outcome_of files) (CallsForAudit model table which)
audit-refers model table which files outcome_of same =
    refers-report (model ∷ table ∷ []) files (outcome_of files) (audit_looks_at model table) (IsAuditText model table which) (IsAuditBegun model table which) same (no_file-audit model table files)

-- the advices of the table, where the model's file was read first
pub table-of : (model table digest : List ℕ) (m : ModelData) (advices : AdvicesData) (before mid : Option Files) → mid ≡ before
    → Given before model (λ file. IsModelFile file digest m) → Given mid table (λ file. IsTableFile m digest file advices) → AreAdvicesOf m advices → AreAdvices advices
    → IfSome before (λ files. IsTableOf model table files m advices)
table-of model table digest m advices before mid same is_model is_table fits known =
    told-both before _ _ _ (λ files model_file table_file. record { digest = digest; model_file = model_file; table_file = table_file; fits = fits; known = known })
    is_model (subst (λ (h : Option Files). Given h table (λ file. IsTableFile m digest file advices)) same is_table)
