-- What the commands on tables are worth, in the words of the subject, over a folder that tells its files.
use Rattle.std.specs.Prelude.{◌≡◌, ◌⊎◌, ℕ, List, Some}
use Rattle.std.specs.FinMap.{insert}
use Rattle.sha2.specs.Sha256.{sha256}
use Rattle.acas_spec.specs.Model.{ModelData}
use Rattle.acas_spec.specs.Table.{Table}
use Rattle.acas_outside.specs.Bytes.{Appends}
use Rattle.acas_outside.specs.Files.{Files}
use Rattle.acas_outside.specs.Outside.{Outside}
use Rattle.acas_policies.specs.Bounds.{HasTwoSidedBounds, IsTight}
use Rattle.acas_table_text.specs.Layers.{table_text}
use Rattle.acas_table_text.specs.declared.format.Format.TheVariants.{Layered}
use Rattle.acas_accept.specs.Accepted.{IsAcceptedTable}
use Rattle.acas_command.specs.Called.{MayPrint}
use Rattle.acas_command.specs.Says.{SaysModel}
use Rattle.acas_command.specs.Worth.{IsDoneUnlessFailed, PrintsLine}
use Rattle.acas_command.specs.declared.status.Cause.{Cause}
use Rattle.acas_command.specs.declared.status.Cause.TheVariants.{Output}
use Rattle.acas_table_rows.specs.StoredLine.{compiled_line}
use Rattle.acas_table_rows.specs.ValuesText.{table_lines}

-- M says the model m by these bytes, and t is a table of it that has two-sided bounds and is tight
pub record IsTightTableOf (model : List ℕ) (files : Files) (bytes : List ℕ) (m : ModelData) (t : Table) : Type 0 where
  pub says : SaysModel files model bytes m
  pub bounds : HasTwoSidedBounds m t
  pub tight : IsTight m t

-- M says a model, and what was printed are the lines of a table of it, which has two-sided bounds and is tight; all files are as before
pub record PrintsTable (model : List ℕ) (files : Files) (before after : Outside) : Type 0 where
  pub bytes : List ℕ
  pub m : ModelData
  pub t : Table
  pub made : IsTightTableOf model files bytes m t
  pub printed : Appends before.written after.written (table_lines m t)
  pub kept : after.holds ≡ Some files

-- M says a model, T holds the text in version 2 of a table of it, which has two-sided bounds and is tight, and whose entries are all
-- sound, and all other names are as before; and the line that is printed says how large it is
pub record StoresTable (model table : List ℕ) (files : Files) (cause : Cause) (before after : Outside) : Type 0 where
  pub bytes : List ℕ
  pub m : ModelData
  pub t : Table
  pub made : IsTightTableOf model files bytes m t
  pub accepted : IsAcceptedTable m (sha256 bytes) (table_text Layered (sha256 bytes) m.grid t) t
  pub stored : after.holds ≡ Some (insert files table (table_text Layered (sha256 bytes) m.grid t))
  pub line : PrintsLine cause before after (compiled_line m.grid)

-- `values M`: what a run has printed whose whole output is out; and where M says a model, it is done unless a call failed
pub record ValuesIsWorth (model : List ℕ) (files : Files) (cause : Cause) (before after : Outside) : Type 0 where
  pub printed : MayPrint cause → PrintsTable model files before after
  pub not_refused : (bytes : List ℕ) (m : ModelData) → SaysModel files model bytes m → IsDoneUnlessFailed cause before after

-- `compile M T`: what a run has stored and printed whose whole output is out, or whose output failed; and where M says a model, it is
-- done unless a call failed
pub record CompileIsWorth (model table : List ℕ) (files : Files) (cause : Cause) (before after : Outside) : Type 0 where
  pub stored : (MayPrint cause) ⊎ (cause ≡ Output) → StoresTable model table files cause before after
  pub not_refused : (bytes : List ℕ) (m : ModelData) → SaysModel files model bytes m → IsDoneUnlessFailed cause before after
