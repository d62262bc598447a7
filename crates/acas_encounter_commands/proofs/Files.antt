-- What a replay goes on with behind its files.
use Rattle.std.proofs.Common.{◌≡◌, ℕ, List, [], ◌∷◌, None, refl, sym, ◌∙◌}
use Rattle.std.specs.FinMap.{get}
use Rattle.acas_spec.specs.Model.{ModelData}
use Rattle.acas_base.specs.Advices.{AdvicesData}
use Rattle.acas_outside.specs.Files.{Files}
use Rattle.acas_replay.specs.Whole.{encounter_of}
use Rattle.acas_command.specs.ModelFile.{IsModelFile}
use Rattle.acas_command.specs.Outcome.{Outcome, prints}
use Rattle.acas_command.specs.declared.status.FileRole.TheVariants.{Encounter as EncounterFile}
use Rattle.acas_command.proofs.Behind.{Refers}
use Rattle.acas_command.proofs.Files.{with_model-file}
use Rattle.acas_command.proofs.Inputs.{no_file-input_file}
use Rattle.acas_command.proofs.Reports.{no_file-model, refers-report}
use Rattle.acas_table_file.specs.AcceptedFile.{IsTableFile}
use Rattle.acas_table_file.specs.Calls.{with_table}
use Rattle.acas_table_file.proofs.Files.{no_file-table, with_table-file}
use Rattle.acas_encounter_commands.specs.Calls.{CallsForReplay, IsReplayBegun, IsReplayText, encounter_looked_at, replay_looks_at}

-- looking at the files stores nothing
no_file-replay : (model table encounter : List ℕ) (files : Files) → (replay_looks_at model table encounter files).file ≡ None
no_file-replay model table encounter files =
    no_file-model (get files model) (λ digest m. with_table m digest (get files table) (λ bytes. encounter_looked_at encounter files m))
    (λ digest m. no_file-table m digest (get files table) (λ bytes. encounter_looked_at encounter files m)
    (λ bytes. no_file-input_file EncounterFile (encounter_of m) (get files encounter) (λ flown. prints []) (λ flown. refl)))

-- behind the model's file, and behind the table's
pub replay-behind_model : (model table encounter digest : List ℕ) (m : ModelData) (files : Files) → IsModelFile (get files model) digest m
    → with_table m digest (get files table) (λ bytes. encounter_looked_at encounter files m) ≡ replay_looks_at model table encounter files
replay-behind_model model table encounter digest m files is =
    sym (with_model-file (get files model) digest m (λ d n. with_table n d (get files table) (λ bytes. encounter_looked_at encounter files n)) is)

pub replay-behind_table : (model table encounter digest : List ℕ) (m : ModelData) (advices : AdvicesData) (files : Files) → IsModelFile (get files model) digest m
    → IsTableFile m digest (get files table) advices → encounter_looked_at encounter files m ≡ replay_looks_at model table encounter files
replay-behind_table model table encounter digest m advices files is is_table =
    sym (with_table-file m digest (get files table) advices (encounter_looked_at encounter files m) is_table) ∙ replay-behind_model model table encounter digest m files is

-- what refuses the command as it looks at its files is answered by it
pub replay-refers : (model table encounter : List ℕ) (files : Files) (outcome_of : Files → Outcome) → outcome_of files ≡ replay_looks_at model table encounter files
    → Refers files (outcome_of files) (CallsForReplay model table encounter)
replay-refers model table encounter files outcome_of same =
    refers-report (model ∷ table ∷ encounter ∷ []) files (outcome_of files) (replay_looks_at model table encounter) (IsReplayText model table encounter) (IsReplayBegun model table encounter) same (no_file-replay model table encounter files)
