-- What `audit` calls for, by the files of the folder.
use Rattle.std.specs.Prelude.{◌≡◌, ℕ, List, [], ◌∷◌, Option}
use Rattle.std.specs.FinMap.{get}
use Rattle.acas_spec.specs.Model.{ModelData}
use Rattle.acas_base.specs.Advices.{AdvicesData}
use Rattle.acas_outside.specs.Files.{Files}
use Rattle.acas_report_lines.specs.declared.counts.Counts.{Counts}
use Rattle.acas_report_lines.specs.declared.counts.Which.{Which}
use Rattle.acas_report_lines.specs.CellReport.{IsReport, IsReportBegun}
use Rattle.acas_command.specs.Called.{Called, calls_for_report}
use Rattle.acas_command.specs.Calls.{with_model}
use Rattle.acas_command.specs.Outcome.{Outcome, prints}
use Rattle.acas_table_file.specs.AcceptedFile.{IsTableOf}
use Rattle.acas_table_file.specs.Calls.{with_table}

-- what an audit looks at before it prints: the file of the model, and that of the table
abbrev pub audit_looks_at : List ℕ → List ℕ → Files → Outcome
audit_looks_at model table files = with_model (get files model) (λ digest m. with_table m digest (get files table) (λ bytes. prints []))

-- the text is a report of the table's advices, with so many reported
pub record IsAuditText (model table : List ℕ) (which : Which) (files : Files) (reported : ℕ) (text : List ℕ) : Type 0 where
  pub m : ModelData
  pub advices : AdvicesData
  pub advised : IsTableOf model table files m advices
  pub counts : Counts
  pub report : IsReport m advices which counts text
  pub count : reported ≡ counts.reported

-- a report of the table's advices was begun
pub record IsAuditBegun (model table : List ℕ) (which : Which) (files : Files) (old new : Option (List ℕ)) : Type 0 where
  pub m : ModelData
  pub advices : AdvicesData
  pub advised : IsTableOf model table files m advices
  pub begun : IsReportBegun m advices which old new

-- an audit prints a report of the accepted table
abbrev pub CallsForAudit : List ℕ → List ℕ → Which → Called
CallsForAudit model table which = calls_for_report (model ∷ table ∷ []) (audit_looks_at model table) (IsAuditText model table which) (IsAuditBegun model table which)
