-- What `replay` is worth, in the words of the subject, over a folder that tells its files.
use Rattle.std.specs.Prelude.{◌≡◌, ℕ, ◌<◌, List, Some}
use Rattle.acas_spec.specs.Model.{ModelData}
use Rattle.acas_spec.specs.Table.{Table}
use Rattle.acas_base.specs.Advices.{AdvicesData}
use Rattle.acas_outside.specs.Bytes.{Appends}
use Rattle.acas_outside.specs.Files.{Files}
use Rattle.acas_outside.specs.Outside.{Outside}
use Rattle.acas_doc.specs.declared.input_fault.InputFault.{InputFault}
use Rattle.acas_replay.specs.Encounter.{EncounterData, seconds}
use Rattle.acas_replay.specs.Text.{IsEncounterText}
use Rattle.acas_replay.specs.Audited.{IsAudited, IsOfCells}
use Rattle.acas_replay.specs.Replay.{Course, IsCourse, replay_text, state_at}
use Rattle.acas_table_text.specs.declared.refusal.TableRefusal.{TableRefusal}
use Rattle.acas_command.specs.Called.{MayPrint}
use Rattle.acas_command.specs.Says.{RejectsBeside, SaysBeside}
use Rattle.acas_command.specs.Worth.{IsDoneUnlessFailed}
use Rattle.acas_command.specs.declared.status.Cause.{Cause}
use Rattle.acas_command.specs.declared.status.Cause.TheVariants.{Input, Table as Refused}
use Rattle.acas_table_file.specs.Worth.{RejectsTable, SaysTable, TellsAdvices}

-- What a course of an encounter issues is ruled on in an audit of the same advices: each state that may be in a cell is in an advisory
-- cell under the advice that is issued there, where that is not clear of conflict.
pub record IsRuledOn (m : ModelData) (advices : AdvicesData) (flown : EncounterData) (course : Course) : Type 0 where
  pub each : (k : ℕ) → k < seconds flown → IsOfCells m (state_at flown course k) → 0 < course.advice k → IsAudited m advices (state_at flown course k) (course.advice k)

-- M says a model, T is the text of a table of it whose entries are all sound, E says an encounter beside M, and what was printed is the
-- text of the encounter's course under that table's advices, which an audit rules on
pub record PrintsReplay (model table encounter : List ℕ) (files : Files) (before after : Outside) : Type 0 where
  pub m : ModelData
  pub advices : AdvicesData
  pub advised : TellsAdvices model table files m advices
  pub flown : EncounterData
  pub says : SaysBeside IsEncounterText model encounter files m flown
  pub course : Course
  pub is_course : IsCourse m advices flown course
  pub printed : Appends before.written after.written (replay_text m flown course)
  pub ruled_on : IsRuledOn m advices flown course
  pub kept : after.holds ≡ Some files

-- `replay M T E`: what a run has printed whose whole output is out, and what one has rejected that is refused as a table or as an
-- encounter; and where M says a model, T is the text of a table of it whose entries are all sound, and E says an encounter beside it, it
-- is done unless a call failed
pub record ReplayIsWorth (model table encounter : List ℕ) (files : Files) (cause : Cause) (before after : Outside) : Type 0 where
  pub printed : MayPrint cause → PrintsReplay model table encounter files before after
  pub refused_table : (refusal : TableRefusal) → cause ≡ Refused refusal → RejectsTable model table files
  pub refused_encounter : (fault : InputFault) → cause ≡ Input fault → RejectsBeside (λ m digest. IsEncounterText m) model encounter files
  pub not_refused : (m : ModelData) (t : Table) (flown : EncounterData) → SaysTable model table files m t → SaysBeside IsEncounterText model encounter files m flown
      → IsDoneUnlessFailed cause before after
