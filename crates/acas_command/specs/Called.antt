-- What a command calls for, by the files of the folder.
use Rattle.std.specs.Prelude.{◌≡◌, ◌⊎◌, ℕ, List, Option, Some, IsSomeAnd, ⊤}
use Rattle.acas_outside.specs.Bytes.{AppendsPart}
use Rattle.acas_outside.specs.Files.{Files, StoresPart}
use Rattle.acas_outside.specs.Outside.{Outside}
use Rattle.acas_command.specs.Outcome.{Outcome, reports, with_file}
use Rattle.acas_command.specs.declared.status.Cause.{Cause}
use Rattle.acas_command.specs.declared.status.Cause.TheVariants.{Done, Reported, Words, Absent, Model, Table, Input, Folder, Output, TooLong, Memory}

-- the files that it reads, the outcomes that it may end with, and what it may leave behind where the output or the folder fails
pub record Called : Type 1 where
  -- the names of these files; one that is read as two, as a model and as a table, is named twice
  pub reads : List (List ℕ)
  pub ends : Files → Outcome → Type 0
  -- from one moment to another, where the output failed
  pub prints : Files → Outside → Outside → Type 0
  -- what the folder holds, where it failed
  pub stores : Files → Option Files → Type 0

-- a cause with which the whole output of a command is out
abbrev pub MayPrint : Cause → Type 0
MayPrint Done = ⊤
MayPrint Reported = ⊤
MayPrint Words = ⊥
MayPrint (Absent role) = ⊥
MayPrint (Model fault) = ⊥
MayPrint (Table refusal) = ⊥
MayPrint (Input fault) = ⊥
MayPrint Folder = ⊥
MayPrint Output = ⊥
MayPrint (TooLong role) = ⊥
MayPrint Memory = ⊥

-- the outcome has an output, of which a proper prefix is out, and its file is stored
pub record PrintsPart (outcome : Outcome) (files : Files) (before after : Outside) : Type 0 where
  pub prints : MayPrint outcome.cause
  pub printed : AppendsPart before.written after.written outcome.output
  pub stored : after.holds ≡ Some (with_file outcome.file files)

-- the files are as before, or the one that was to be stored holds a proper prefix of its bytes
abbrev pub MayStorePart : Option (List ℕ × List ℕ) → Files → Option Files → Type 0
MayStorePart file files now = (now ≡ Some files) ⊎ IsSomeAnd file (λ (name, bytes). StoresPart (Some files) now name bytes)

-- a command that reads the files of these names and has one outcome
abbrev pub calls_for : List (List ℕ) → (Files → Outcome) → Called
calls_for names outcome_of = record {
  reads = names;
  ends = λ files outcome. outcome ≡ outcome_of files;
  prints = λ files before after. PrintsPart (outcome_of files) files before after;
  stores = λ files now. MayStorePart (outcome_of files).file files now;
}

-- looking at the files refuses the command, and the outcome is that refusal
pub record IsRefusal (looked outcome : Outcome) : Type 0 where
  pub is : outcome ≡ looked
  pub refused : ¬ MayPrint looked.cause

-- a report with so many reported, and its text, are the outcome
pub record IsReportOutcome (IsReport : ℕ → List ℕ → Type 0) (outcome : Outcome) : Type 0 where
  pub reported : ℕ
  pub text : List ℕ
  pub report : IsReport reported text
  pub is : outcome ≡ reports reported text

-- from one moment to another a report was begun, and the files are as before
pub record BeginsReport (IsBegun : Option (List ℕ) → Option (List ℕ) → Type 0) (files : Files) (before after : Outside) : Type 0 where
  pub begun : IsBegun before.written after.written
  pub kept : after.holds ≡ Some files

-- A command that is refused as it looks at its files, which have these names, or prints a report on them. It stores nothing.
abbrev pub calls_for_report : List (List ℕ) → (Files → Outcome) → (Files → ℕ → List ℕ → Type 0) → (Files → Option (List ℕ) → Option (List ℕ) → Type 0) → Called
calls_for_report names looks IsReport IsBegun = record {
  reads = names;
  ends = λ files outcome. IsRefusal (looks files) outcome ⊎ IsReportOutcome (IsReport files) outcome;
  prints = λ files before after. BeginsReport (IsBegun files) files before after;
  stores = λ files now. now ≡ Some files;
}

-- the same command where only the files of these names are still to be read
abbrev pub reading : List (List ℕ) → Called → Called
reading names called = record called { reads = names }
