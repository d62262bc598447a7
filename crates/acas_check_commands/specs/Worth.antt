-- What the commands on stored tables are worth, in the words of the subject, over a folder that tells its files.
use Rattle.std.specs.Prelude.{◌≡◌, ◌⊎◌, ℕ, List, Some}
use Rattle.std.specs.FinMap.{insert}
use Rattle.sha2.specs.Sha256.{sha256}
use Rattle.acas_spec.specs.Model.{ModelData}
use Rattle.acas_spec.specs.Table.{Table}
use Rattle.acas_outside.specs.Bytes.{Appends}
use Rattle.acas_outside.specs.Files.{Files}
use Rattle.acas_outside.specs.Outside.{Outside}
use Rattle.acas_policies.specs.Bounds.{HasTwoSidedBounds}
use Rattle.acas_table_text.specs.Layers.{table_text}
use Rattle.acas_table_text.specs.declared.format.Format.TheVariants.{Layered}
use Rattle.acas_accept.specs.Accepted.{IsAcceptedTable}
use Rattle.acas_table_text.specs.declared.refusal.TableRefusal.{TableRefusal}
use Rattle.acas_command.specs.Called.{MayPrint}
use Rattle.acas_command.specs.Worth.{IsDoneUnlessFailed, PrintsLine}
use Rattle.acas_table_file.specs.Worth.{RejectsTable, SaysTable}
use Rattle.acas_command.specs.declared.status.Cause.{Cause}
use Rattle.acas_command.specs.declared.status.Cause.TheVariants.{Output, Table as Refused}
use Rattle.acas_table_rows.specs.StoredLine.{migrated_line}
use Rattle.acas_check_commands.specs.AcceptedLine.{accepted_line}

-- M says a model, T is the text of a table of it whose entries are all sound, and that table has two-sided bounds; what was printed says
-- how large it is, and all files are as before
pub record AcceptsTable (model table : List ℕ) (files : Files) (before after : Outside) : Type 0 where
  pub m : ModelData
  pub t : Table
  pub says : SaysTable model table files m t
  pub bounds : HasTwoSidedBounds m t
  pub printed : Appends before.written after.written (accepted_line m.grid)
  pub kept : after.holds ≡ Some files

-- M says a model, T1 is the text of a table of it whose entries are all sound, T2 holds the text in version 2 of that table, which is
-- accepted too, and all other names are as before; that table has two-sided bounds, and the line that is printed says how large T2 is
pub record MigratesTable (model table target : List ℕ) (files : Files) (cause : Cause) (before after : Outside) : Type 0 where
  pub m : ModelData
  pub t : Table
  pub says : SaysTable model table files m t
  pub migrated : IsAcceptedTable m (sha256 says.bytes) (table_text Layered (sha256 says.bytes) m.grid t) t
  pub stored : after.holds ≡ Some (insert files target (table_text Layered (sha256 says.bytes) m.grid t))
  pub bounds : HasTwoSidedBounds m t
  pub line : PrintsLine cause before after (migrated_line m.grid)

-- `check M T`: what a run has accepted whose whole output is out, and what one has rejected that is refused as a table; and where M says
-- a model and T is the text of a table of it whose entries are all sound, it is done unless a call failed
pub record CheckIsWorth (model table : List ℕ) (files : Files) (cause : Cause) (before after : Outside) : Type 0 where
  pub accepted : MayPrint cause → AcceptsTable model table files before after
  pub refused : (refusal : TableRefusal) → cause ≡ Refused refusal → RejectsTable model table files
  pub not_refused : (m : ModelData) (t : Table) → SaysTable model table files m t → IsDoneUnlessFailed cause before after

-- `migrate M T1 T2`: what a run has stored and printed whose whole output is out, or whose output failed, and what one has rejected that
-- is refused as a table; and where M says a model and T1 is the text of a table of it whose entries are all sound, it is done unless a
-- call failed
pub record MigrateIsWorth (model table target : List ℕ) (files : Files) (cause : Cause) (before after : Outside) : Type 0 where
  pub stored : (MayPrint cause) ⊎ (cause ≡ Output) → MigratesTable model table target files cause before after
  pub refused : (refusal : TableRefusal) → cause ≡ Refused refusal → RejectsTable model table files
  pub not_refused : (m : ModelData) (t : Table) → SaysTable model table files m t → IsDoneUnlessFailed cause before after
