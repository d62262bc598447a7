-- How a command ends where nothing fails.
use Rattle.std.specs.Prelude.{ℕ, zero, suc, List, [], Option, None, Some}
use Rattle.std.specs.FinMap.{insert}
use Rattle.acas_outside.specs.Files.{Files}
use Rattle.acas_command.specs.declared.status.Cause.{Cause}
use Rattle.acas_command.specs.declared.status.Cause.TheVariants.{Done, Reported}

-- the cause, all that is printed, and the file that is stored, if any: its name and its bytes
pub record Outcome : Type 0 where
  pub cause : Cause
  pub output : List ℕ
  pub file : Option (List ℕ × List ℕ)

-- nothing is printed or stored
abbrev pub refuses : Cause → Outcome
refuses cause = record { cause = cause; output = []; file = None }

-- this is printed
abbrev pub prints : List ℕ → Outcome
prints output = record { cause = Done; output = output; file = None }

-- this is stored under a name, and then this is printed
abbrev pub stores : List ℕ → List ℕ → List ℕ → Outcome
stores name bytes output = record { cause = Done; output = output; file = Some (name, bytes) }

-- a report that has reported none, or some
abbrev pub report_cause : ℕ → Cause
report_cause zero = Done
report_cause (suc more) = Reported

-- a report is printed, with so many reported
abbrev pub reports : ℕ → List ℕ → Outcome
reports reported output = record { cause = report_cause reported; output = output; file = None }

-- the files with the one that is stored
abbrev pub with_file : Option (List ℕ × List ℕ) → Files → Files
with_file None files = files
with_file (Some file) files = insert files file.0 file.1
