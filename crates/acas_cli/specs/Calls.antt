-- What a form of words calls for, by the files of the folder, and what is answered.
use Rattle.std.specs.Prelude.{◌≡◌, ℕ, Option, Some, None}
use Rattle.acas_outside.specs.Files.{Files}
use Rattle.acas_outside.specs.Outside.{Outside}
use Rattle.acas_command.specs.Answers.{Answers}
use Rattle.acas_command.specs.Called.{Called}
use Rattle.acas_command.specs.declared.status.Cause.{Cause}
use Rattle.acas_command.specs.declared.status.Cause.TheVariants.{Words}
use Rattle.acas_cell_commands.specs.AuditCalls.{CallsForAudit}
use Rattle.acas_box_commands.specs.RegionsCalls.{CallsForRegions}
use Rattle.acas_drill.specs.Calls.{CallsForDrill, EndsDrill}
use Rattle.acas_encounter_commands.specs.Calls.{CallsForReplay}
use Rattle.acas_box_commands.specs.ManoeuvreCalls.{CallsForManoeuvre}
use Rattle.acas_risk_commands.specs.Calls.{CallsForRisk}
use Rattle.acas_cell_commands.specs.SafeableCalls.{CallsForSafeable}
use Rattle.acas_table_commands.specs.Calls.{CallsForCompile, CallsForValues}
use Rattle.acas_check_commands.specs.Calls.{CallsForCheck, CallsForMigrate}
use Rattle.acas_cli_words.specs.Words.{Form, Values, Compile, Check, Risk, Audit, Regions, Manoeuvre, Safeable, Replay, Migrate, Drill}

-- what a form calls for
abbrev pub CallsFor : Form → Called
CallsFor (Values model) = CallsForValues model
CallsFor (Compile model table) = CallsForCompile model table
CallsFor (Check model table) = CallsForCheck model table
CallsFor (Risk model table) = CallsForRisk model table
CallsFor (Audit model table which) = CallsForAudit model table which
CallsFor (Regions model boxes) = CallsForRegions model boxes
CallsFor (Manoeuvre model boxes accel rate) = CallsForManoeuvre model boxes (record { accel = accel; rate = rate })
CallsFor (Safeable model table) = CallsForSafeable model table
CallsFor (Replay model table encounter) = CallsForReplay model table encounter
CallsFor (Migrate model table target) = CallsForMigrate model table target
CallsFor (Drill number) = CallsForDrill number

-- a drill leaves the folder as it was, and is answered so whatever files the folder holds, told or not; no folder fails it
pub record AnswersDrill (number : ℕ) (cause : Cause) (before after : Outside) : Type 0 where
  pub alone : after ≡ record before { written = after.written; output_faults = after.output_faults }
  pub answered : (holds : Option Files) → Answers (CallsForDrill number) cause (record before { holds = holds }) (record after { holds = holds })
  pub ends : EndsDrill cause

-- the answer to a form
abbrev pub AnswersCall : Form → Cause → Outside → Outside → Type 0
AnswersCall (Values model) cause before after = Answers (CallsForValues model) cause before after
AnswersCall (Compile model table) cause before after = Answers (CallsForCompile model table) cause before after
AnswersCall (Check model table) cause before after = Answers (CallsForCheck model table) cause before after
AnswersCall (Risk model table) cause before after = Answers (CallsForRisk model table) cause before after
AnswersCall (Audit model table which) cause before after = Answers (CallsForAudit model table which) cause before after
AnswersCall (Regions model boxes) cause before after = Answers (CallsForRegions model boxes) cause before after
AnswersCall (Manoeuvre model boxes accel rate) cause before after = Answers (CallsForManoeuvre model boxes (record { accel = accel; rate = rate })) cause before after
AnswersCall (Safeable model table) cause before after = Answers (CallsForSafeable model table) cause before after
AnswersCall (Replay model table encounter) cause before after = Answers (CallsForReplay model table encounter) cause before after
AnswersCall (Migrate model table target) cause before after = Answers (CallsForMigrate model table target) cause before after
AnswersCall (Drill number) cause before after = AnswersDrill number cause before after

-- the answer to words of a form, or to other words
abbrev pub AnswersForm : Option Form → Cause → Outside → Outside → Type 0
AnswersForm None cause before after = (cause ≡ Words) × (after ≡ before)
AnswersForm (Some form) cause before after = AnswersCall form cause before after
