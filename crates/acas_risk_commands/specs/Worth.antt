-- What `risk` is worth, in the words of the subject, over a folder that tells its files.
use Rattle.std.specs.Prelude.{◌≡◌, ℕ, List, Some}
use Rattle.acas_spec.specs.Model.{ModelData}
use Rattle.acas_spec.specs.Table.{Table}
use Rattle.acas_outside.specs.Bytes.{Appends}
use Rattle.acas_outside.specs.Files.{Files}
use Rattle.acas_outside.specs.Outside.{Outside}
use Rattle.acas_policies.specs.Bounds.{HasTwoSidedBounds}
use Rattle.acas_risk.specs.RiskText.{AreRisks, RiskRow, risk_lines}
use Rattle.acas_table_text.specs.declared.refusal.TableRefusal.{TableRefusal}
use Rattle.acas_command.specs.Called.{MayPrint}
use Rattle.acas_command.specs.Worth.{IsDoneUnlessFailed}
use Rattle.acas_command.specs.declared.status.Cause.{Cause}
use Rattle.acas_command.specs.declared.status.Cause.TheVariants.{Table as Refused}
use Rattle.acas_table_file.specs.Worth.{RejectsTable, SaysTable}

-- M says a model, T is the text of a table of it whose entries are all sound, and what was printed has for each state at the horizon
-- bounds of the chance of contact under that table's policy and under the policy that is always clear of conflict, and of what the
-- table's policy costs; and that table has two-sided bounds, which are of the same cost
pub record PrintsRisk (model table : List ℕ) (files : Files) (before after : Outside) : Type 0 where
  pub m : ModelData
  pub t : Table
  pub says : SaysTable model table files m t
  pub bounds : HasTwoSidedBounds m t
  pub rows : ℕ → RiskRow
  pub risks : AreRisks m t.advice rows
  pub printed : Appends before.written after.written (risk_lines m rows)
  pub kept : after.holds ≡ Some files

-- `risk M T`: what a run has printed whose whole output is out, and what one has rejected that is refused as a table; and where M says a
-- model and T is the text of a table of it whose entries are all sound, it is done unless a call failed
pub record RiskIsWorth (model table : List ℕ) (files : Files) (cause : Cause) (before after : Outside) : Type 0 where
  pub printed : MayPrint cause → PrintsRisk model table files before after
  pub refused : (refusal : TableRefusal) → cause ≡ Refused refusal → RejectsTable model table files
  pub not_refused : (m : ModelData) (t : Table) → SaysTable model table files m t → IsDoneUnlessFailed cause before after
