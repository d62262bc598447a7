-- What a run counts.
use Rattle.std.specs.Prelude.{◌≡◌, ◌≤◌, ◌^◌, ℕ, List, Option, Some, None}
use Rattle.acas_outside.specs.Files.{Files}
use Rattle.acas_command.specs.Answers.{EndsLooking}
use Rattle.acas_command.specs.declared.status.Cause.{Cause}
use Rattle.acas_cell_commands.specs.Decisions.{CountsAudit}
use Rattle.acas_table_commands.specs.Work.{CountsSweep, EndsUnswept}
use Rattle.acas_cli_words.specs.Words.{Form, Values, Compile, Check, Risk, Audit, Regions, Manoeuvre, Safeable, Replay, Migrate, Drill}
use Rattle.acas_cli.specs.declared.work.Work.{Work}

-- there is room for one more run
pub record HasRoom (work : Work) : Type 0 where
  pub backups : work.backups ≤ 2 ^ 63
  pub turned : work.turned ≤ 2 ^ 63
  pub decisions : work.decisions ≤ 2 ^ 63

-- no count fell
pub record NoneFell (old new : Work) : Type 0 where
  pub backups : old.backups ≤ new.backups
  pub turned : old.turned ≤ new.turned
  pub decisions : old.decisions ≤ new.decisions

-- a sweep over the table of a model is counted, but where the command ends with such a cause before it, and no decision
pub record CountsTable (EndsBefore : Cause → Type 0) (model : List ℕ) (holds : Option Files) (cause : Cause) (old new : Work) : Type 0 where
  pub sweep : CountsSweep EndsBefore model holds cause old.backups new.backups old.turned new.turned
  pub decisions : new.decisions ≡ old.decisions

-- the decisions of an audit are counted, and nothing else
pub record CountsReport (model table : List ℕ) (holds : Option Files) (cause : Cause) (old new : Work) : Type 0 where
  pub audit : CountsAudit model table holds cause old.decisions new.decisions
  pub backups : new.backups ≡ old.backups
  pub turned : new.turned ≡ old.turned

-- what a form counts, by what the folder held before
abbrev pub CountsFor : Form → Option Files → Cause → Work → Work → Type 0
CountsFor (Values model) holds cause old new = CountsTable EndsLooking model holds cause old new
CountsFor (Compile model table) holds cause old new = CountsTable EndsUnswept model holds cause old new
CountsFor (Check model table) holds cause old new = new ≡ old
CountsFor (Risk model table) holds cause old new = new ≡ old
CountsFor (Audit model table which) holds cause old new = CountsReport model table holds cause old new
CountsFor (Regions model boxes) holds cause old new = new ≡ old
CountsFor (Manoeuvre model boxes accel rate) holds cause old new = new ≡ old
CountsFor (Safeable model table) holds cause old new = new ≡ old
CountsFor (Replay model table encounter) holds cause old new = new ≡ old
CountsFor (Migrate model table target) holds cause old new = new ≡ old
CountsFor (Drill number) holds cause old new = new ≡ old

-- words of a form count what their form does, and other words nothing
abbrev pub CountsForm : Option Form → Option Files → Cause → Work → Work → Type 0
CountsForm None holds cause old new = new ≡ old
CountsForm (Some form) holds cause old new = CountsFor form holds cause old new
