-- The form of a command.
use Rattle.std.specs.Prelude.{◌≡◌, ◌≤◌, ℕ, List, pos, Option, Some, None, ⊤}
use Rattle.acas_units.specs.declared.limits.TheConstants.{GREATEST_DRILL_NUMBER}
use Rattle.acas_rulings.specs.ManoeuvreLimits.{IsManoeuvre}
use Rattle.acas_cli_words.specs.Words.{Form, Values, Compile, Check, Risk, Audit, Regions, Manoeuvre, Safeable, Replay, Migrate, Drill}
use Rattle.acas_cli_words.specs.declared.words.Command.{Command}
use Rattle.acas_cli_words.specs.declared.words.Command.TheVariants.{Values as ValuesCommand, Compile as CompileCommand, Regions as RegionsCommand, Manoeuvre as ManoeuvreCommand, OnTable, Drill as DrillCommand}
use Rattle.acas_cli_words.specs.declared.words.TableCommand.{TableCommand}
use Rattle.acas_cli_words.specs.declared.words.TableCommand.TheVariants.{Check as CheckCommand, Risk as RiskCommand, Audit as AuditCommand, Safeable as SafeableCommand, Replay as ReplayCommand, Migrate as MigrateCommand}

-- a command has the form of its words, one on a table too
abbrev pub form_of_table_command : List ℕ → List ℕ → TableCommand → Form
form_of_table_command model table CheckCommand = Check model table
form_of_table_command model table RiskCommand = Risk model table
form_of_table_command model table (AuditCommand which) = Audit model table which
form_of_table_command model table SafeableCommand = Safeable model table
form_of_table_command model table (ReplayCommand encounter) = Replay model table encounter.now
form_of_table_command model table (MigrateCommand target) = Migrate model table target.now

abbrev pub form_of_command : Command → Form
form_of_command (ValuesCommand model) = Values model.now
form_of_command (CompileCommand model table) = Compile model.now table.now
form_of_command (RegionsCommand model boxes) = Regions model.now boxes.now
form_of_command (ManoeuvreCommand model boxes accel rate) = Manoeuvre model.now boxes.now accel rate
form_of_command (OnTable model table command) = form_of_table_command model.now table.now command
form_of_command (DrillCommand number) = Drill number

-- there is a command exactly where there is a form, and it has that form
abbrev pub HasForm : Option Command → Option Form → Type 0
HasForm None form = form ≡ None
HasForm (Some command) form = form ≡ Some (form_of_command command)

-- what an intruder may do is within its limits, and so is a drill's number
abbrev pub HasNumber : Form → Type 0
HasNumber (Values model) = ⊤
HasNumber (Compile model table) = ⊤
HasNumber (Check model table) = ⊤
HasNumber (Risk model table) = ⊤
HasNumber (Audit model table which) = ⊤
HasNumber (Regions model boxes) = ⊤
HasNumber (Manoeuvre model boxes accel rate) = IsManoeuvre (pos accel) (pos rate)
HasNumber (Safeable model table) = ⊤
HasNumber (Replay model table encounter) = ⊤
HasNumber (Migrate model table target) = ⊤
HasNumber (Drill number) = number ≤ GREATEST_DRILL_NUMBER
