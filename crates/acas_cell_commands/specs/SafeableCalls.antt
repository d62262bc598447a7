-- What `safeable` calls for, by the files of the folder.
use Rattle.std.specs.Prelude.{◌≡◌, ℕ, List, [], ◌∷◌, Option}
use Rattle.std.specs.FinMap.{get}
use Rattle.acas_spec.specs.Model.{ModelData}
use Rattle.acas_base.specs.Advices.{AdvicesData}
use Rattle.acas_outside.specs.Files.{Files}
use Rattle.acas_command.specs.Called.{Called, calls_for_report}
use Rattle.acas_command.specs.Calls.{with_model}
use Rattle.acas_command.specs.Outcome.{Outcome, prints}
use Rattle.acas_table_file.specs.AcceptedFile.{IsTableOf}
use Rattle.acas_table_file.specs.Calls.{with_table}
use Rattle.acas_safeable.specs.SafeableText.{IsSafeableBegun, IsSafeableReport}
use Rattle.acas_safeable.specs.declared.counts.SafeCounts.{SafeCounts}

-- what is looked at before anything is printed: the file of the model, and that of the table
abbrev pub safeable_looks_at : List ℕ → List ℕ → Files → Outcome
safeable_looks_at model table files = with_model (get files model) (λ digest m. with_table m digest (get files table) (λ bytes. prints []))

-- the text is a report on the clear cells of the table's advices, of which so many are open
pub record IsSafeableText (model table : List ℕ) (files : Files) (unshown : ℕ) (text : List ℕ) : Type 0 where
  pub m : ModelData
  pub advices : AdvicesData
  pub advised : IsTableOf model table files m advices
  pub counts : SafeCounts
  pub report : IsSafeableReport m advices counts text
  pub count : unshown ≡ counts.unshown

-- a report on the clear cells of the table's advices was begun
pub record IsSafeableTextBegun (model table : List ℕ) (files : Files) (old new : Option (List ℕ)) : Type 0 where
  pub m : ModelData
  pub advices : AdvicesData
  pub advised : IsTableOf model table files m advices
  pub begun : IsSafeableBegun m advices old new

-- `safeable M T` prints a report on the clear cells of the accepted table
abbrev pub CallsForSafeable : List ℕ → List ℕ → Called
CallsForSafeable model table = calls_for_report (model ∷ table ∷ []) (safeable_looks_at model table) (IsSafeableText model table) (IsSafeableTextBegun model table)
