-- What `replay` calls for, by the files of the folder.
use Rattle.std.specs.Prelude.{◌≡◌, ℕ, List, [], ◌∷◌, Option}
use Rattle.std.specs.FinMap.{get}
use Rattle.acas_spec.specs.Model.{ModelData}
use Rattle.acas_base.specs.Advices.{AdvicesData}
use Rattle.acas_outside.specs.Bytes.{AppendsPart}
use Rattle.acas_outside.specs.Files.{Files}
use Rattle.acas_replay.specs.Encounter.{EncounterData, IsEncounterOf}
use Rattle.acas_replay.specs.Whole.{encounter_of}
use Rattle.acas_replay.specs.Replay.{IsReplay}
use Rattle.acas_command.specs.Called.{Called, calls_for_report}
use Rattle.acas_command.specs.Calls.{with_input_file, with_model}
use Rattle.acas_command.specs.InputFile.{IsInputFile}
use Rattle.acas_command.specs.Outcome.{Outcome, prints}
use Rattle.acas_command.specs.declared.status.FileRole.TheVariants.{Encounter as EncounterFile}
use Rattle.acas_table_file.specs.AcceptedFile.{IsTableOf}
use Rattle.acas_table_file.specs.Calls.{with_table}

-- what is looked at behind the table: the file of the encounter
abbrev pub encounter_looked_at : List ℕ → Files → ModelData → Outcome
encounter_looked_at encounter files m = with_input_file EncounterFile (encounter_of m) (get files encounter) (λ flown. prints [])

-- what a replay looks at before it prints: the file of the model, that of the table, and that of the encounter
abbrev pub replay_looks_at : List ℕ → List ℕ → List ℕ → Files → Outcome
replay_looks_at model table encounter files =
    with_model (get files model) (λ digest m. with_table m digest (get files table) (λ bytes. encounter_looked_at encounter files m))

-- M is the file of a model, T that of an accepted table of it with these advices, and E that of this encounter
pub record IsReplayed (model table encounter : List ℕ) (files : Files) (m : ModelData) (advices : AdvicesData) (flown : EncounterData) : Type 0 where
  pub advised : IsTableOf model table files m advices
  pub encounter_file : IsInputFile (encounter_of m) (get files encounter) flown
  pub fits : IsEncounterOf m flown

-- the text is the replay of the encounter under the table's advices; nothing is ever reported
pub record IsReplayText (model table encounter : List ℕ) (files : Files) (reported : ℕ) (text : List ℕ) : Type 0 where
  pub m : ModelData
  pub advices : AdvicesData
  pub flown : EncounterData
  pub replayed : IsReplayed model table encounter files m advices flown
  pub contacts : ℕ
  pub replay : IsReplay m advices flown contacts text
  pub none : reported ≡ 0

-- a proper prefix of that text was printed
pub record IsReplayBegun (model table encounter : List ℕ) (files : Files) (old new : Option (List ℕ)) : Type 0 where
  pub text : List ℕ
  pub replay : IsReplayText model table encounter files 0 text
  pub part : AppendsPart old new text

-- a replay prints the replay of the encounter under the advices of the accepted table
abbrev pub CallsForReplay : List ℕ → List ℕ → List ℕ → Called
CallsForReplay model table encounter =
    calls_for_report (model ∷ table ∷ encounter ∷ []) (replay_looks_at model table encounter) (IsReplayText model table encounter) (IsReplayBegun model table encounter)
