-- What a command that sweeps has counted.
use Rattle.std.specs.Prelude.{◌≡◌, ℕ, ◌+◌, List, Option}
use Rattle.acas_spec.specs.Limits.{IsModel}
use Rattle.acas_spec.specs.Model.{ModelData, entries}
use Rattle.acas_outside.specs.Files.{Files, Given}
use Rattle.acas_sweep.specs.Layers.{backup_count}
use Rattle.acas_command.specs.Answers.{EndsLooking}
use Rattle.acas_command.specs.ModelFile.{IsModelFile}
use Rattle.acas_command.specs.declared.status.Cause.{Cause}
use Rattle.acas_command.specs.declared.status.Cause.TheVariants.{Done, Folder}

-- Over every folder: from one count to another there are as many backups as the table of some model within its limits takes, and as many
-- turned pairs as it has entries. Where the files are told, it is the model that the file of this name says.
pub record HasSwept (name : List ℕ) (holds : Option Files) (backups backups_after turned turned_after : ℕ) : Type 0 where
  pub digest : List ℕ
  pub m : ModelData
  pub within : IsModel m
  pub says : Given holds name (λ file. IsModelFile file digest m)
  pub counted : backups_after ≡ backups + backup_count m
  pub turns : turned_after ≡ turned + entries m.grid

-- a cause with which a command that stores what it sweeps ends before its sweep: each with which looking at the model does, but that the
-- folder failed, which it may do as the table is stored
abbrev pub EndsUnswept : Cause → Type 0
EndsUnswept Folder = ⊥
EndsUnswept cause = EndsLooking cause

-- a command that is done has swept the model of this name, and one that ended before its sweep has counted nothing
pub record CountsSweep (EndsBefore : Cause → Type 0) (name : List ℕ) (holds : Option Files) (cause : Cause) (backups backups_after turned turned_after : ℕ) : Type 0 where
  pub swept : cause ≡ Done → HasSwept name holds backups backups_after turned turned_after
  pub no_backups : EndsBefore cause → backups_after ≡ backups
  pub no_turns : EndsBefore cause → turned_after ≡ turned
