-- What `safeable` is worth, in the words of the subject, over a folder that tells its files.
use Rattle.std.specs.Prelude.{◌≡◌, ℕ, List, Some}
use Rattle.acas_spec.specs.Model.{ModelData}
use Rattle.acas_spec.specs.Table.{Table}
use Rattle.acas_base.specs.Advices.{AdvicesData}
use Rattle.acas_outside.specs.Bytes.{Appends}
use Rattle.acas_outside.specs.Files.{Files}
use Rattle.acas_outside.specs.Outside.{Outside}
use Rattle.acas_cells.specs.Cells.{Cell}
use Rattle.acas_safeable.specs.Outlooks.{AreOutlooks}
use Rattle.acas_safeable.specs.SafeableText.{counts_of, safeable_text}
use Rattle.acas_safeable.specs.declared.counts.SafeCounts.{SafeCounts}
use Rattle.acas_safeable.specs.declared.outlook.Outlook.{Outlook}
use Rattle.acas_table_text.specs.declared.refusal.TableRefusal.{TableRefusal}
use Rattle.acas_command.specs.Called.{MayPrint}
use Rattle.acas_command.specs.Outcome.{report_cause}
use Rattle.acas_command.specs.Worth.{IsNotRefused}
use Rattle.acas_command.specs.declared.status.Cause.{Cause}
use Rattle.acas_command.specs.declared.status.Cause.TheVariants.{Table as Refused}
use Rattle.acas_table_file.specs.Worth.{RejectsTable, SaysTable, TellsAdvices}

-- M says a model, T is the text of a table of it whose entries are all sound, and what was printed says of each clear cell of that table,
-- in order, what is found of it: an advisory by which the cell is safe when it is given a second later, or that none is shown. The cause
-- says whether a cell is open.
pub record PrintsSafeable (model table : List ℕ) (files : Files) (cause : Cause) (before after : Outside) : Type 0 where
  pub m : ModelData
  pub advices : AdvicesData
  pub advised : TellsAdvices model table files m advices
  pub found : Cell → Outlook
  pub outlooks : AreOutlooks m advices found
  pub printed : Appends before.written after.written (safeable_text m advices found)
  pub kept : after.holds ≡ Some files
  pub unshown : cause ≡ report_cause (SafeCounts.unshown (counts_of m advices found))

-- `safeable M T`: what a run has printed that is done or reports, and what one has rejected that is refused as a table; and where M says a
-- model and T is the text of a table of it whose entries are all sound, it is not refused
pub record SafeableIsWorth (model table : List ℕ) (files : Files) (cause : Cause) (before after : Outside) : Type 0 where
  pub printed : MayPrint cause → PrintsSafeable model table files cause before after
  pub refused : (refusal : TableRefusal) → cause ≡ Refused refusal → RejectsTable model table files
  pub not_refused : (m : ModelData) (t : Table) → SaysTable model table files m t → IsNotRefused cause before after
