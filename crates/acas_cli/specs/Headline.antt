-- The headline: what a run is worth, in the words of the subject, over a folder that tells its files.
use Rattle.std.specs.Prelude.{◌≡◌, Option, Some, None, IfSome}
use Rattle.acas_outside.specs.Files.{Files}
use Rattle.acas_outside.specs.Outside.{Outside}
use Rattle.acas_command.specs.declared.status.Cause.{Cause}
use Rattle.acas_command.specs.declared.status.Cause.TheVariants.{Words}
use Rattle.acas_cell_commands.specs.AuditWorth.{AuditIsWorth}
use Rattle.acas_box_commands.specs.RegionsWorth.{RegionsIsWorth}
use Rattle.acas_drill.specs.Worth.{DrillIsWorth}
use Rattle.acas_encounter_commands.specs.Worth.{ReplayIsWorth}
use Rattle.acas_box_commands.specs.ManoeuvreWorth.{ManoeuvreIsWorth}
use Rattle.acas_risk_commands.specs.Worth.{RiskIsWorth}
use Rattle.acas_cell_commands.specs.SafeableWorth.{SafeableIsWorth}
use Rattle.acas_table_commands.specs.Worth.{CompileIsWorth, ValuesIsWorth}
use Rattle.acas_check_commands.specs.Worth.{CheckIsWorth, MigrateIsWorth}
use Rattle.acas_cli_words.specs.Words.{Form, Values, Compile, Check, Risk, Audit, Regions, Manoeuvre, Safeable, Replay, Migrate, Drill}

-- what each form is worth, by the files that the folder held before
abbrev pub IsWorth : Form → Files → Cause → Outside → Outside → Type 0
IsWorth (Values model) files cause before after = ValuesIsWorth model files cause before after
IsWorth (Compile model table) files cause before after = CompileIsWorth model table files cause before after
IsWorth (Check model table) files cause before after = CheckIsWorth model table files cause before after
IsWorth (Risk model table) files cause before after = RiskIsWorth model table files cause before after
IsWorth (Audit model table which) files cause before after = AuditIsWorth model table which files cause before after
IsWorth (Regions model boxes) files cause before after = RegionsIsWorth model boxes files cause before after
IsWorth (Manoeuvre model boxes accel rate) files cause before after = ManoeuvreIsWorth model boxes (record { accel = accel; rate = rate }) files cause before after
IsWorth (Safeable model table) files cause before after = SafeableIsWorth model table files cause before after
IsWorth (Replay model table encounter) files cause before after = ReplayIsWorth model table encounter files cause before after
IsWorth (Migrate model table target) files cause before after = MigrateIsWorth model table target files cause before after
IsWorth (Drill number) files cause before after = DrillIsWorth number files cause before after

-- words of a form are worth what their form is, and other words are refused
abbrev pub Headline : Option Form → Cause → Outside → Outside → Type 0
Headline None cause before after = cause ≡ Words
Headline (Some form) cause before after = IfSome before.holds (λ files. IsWorth form files cause before after)
