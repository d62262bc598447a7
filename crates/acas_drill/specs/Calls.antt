-- What `drill K` calls for. It looks at no file.
use Rattle.std.specs.Prelude.{◌≡◌, ℕ, List, [], Option, ⊤}
use Rattle.acas_spec.specs.Model.{ModelData}
use Rattle.acas_base.specs.Advices.{AdvicesData, AreAdvicesOf}
use Rattle.acas_outside.specs.Bytes.{AppendsPart}
use Rattle.acas_outside.specs.Outside.{Outside}
use Rattle.acas_outside.specs.declared.sink.Sink.{Ghosts as SinkMeanings}
use Rattle.acas_process.specs.Compiled.{compiled}
use Rattle.acas_report_lines.specs.declared.counts.Counts.{Counts}
use Rattle.acas_report_lines.specs.declared.counts.Which.TheVariants.{All}
use Rattle.acas_report_lines.specs.CellReport.{IsReport}
use Rattle.acas_command.specs.Called.{Called, MayPrint, calls_for_report}
use Rattle.acas_command.specs.Outcome.{prints}
use Rattle.acas_command.specs.declared.status.Cause.{Cause}
use Rattle.acas_command.specs.declared.status.Cause.TheVariants.{Output, Memory}
use Rattle.acas_table_file.specs.Worth.{AreTabled}
use Rattle.acas_drill_model.specs.DrilledModel.{drilled_model}
use Rattle.acas_drill.specs.Text.{drill_text}

-- these are the counts of a report of the advices
pub record AreCountsOf (m : ModelData) (advices : AdvicesData) (counts : Counts) : Type 0 where
  pub text : List ℕ
  pub report : IsReport m advices All counts text

-- these are the advices of the compiled table of a model, and the counts of their report
pub record AreDrilled (m : ModelData) (counts : Counts) : Type 0 where
  pub advices : AdvicesData
  pub fits : AreAdvicesOf m advices
  pub tabled : AreTabled m (compiled m) advices
  pub counted : AreCountsOf m advices counts

-- the text is that of a drill, with so many reported
pub record IsDrillText (number reported : ℕ) (text : List ℕ) : Type 0 where
  pub counts : Counts
  pub drilled : AreDrilled (drilled_model number) counts
  pub count : reported ≡ counts.reported
  pub is : text ≡ drill_text number counts

-- a proper prefix of such a text went out
pub record IsDrillBegun (number : ℕ) (old new : Option (List ℕ)) : Type 0 where
  pub reported : ℕ
  pub text : List ℕ
  pub drilled : IsDrillText number reported text
  pub part : AppendsPart old new text

-- a drill prints that text, whatever the files
abbrev pub CallsForDrill : ℕ → Called
CallsForDrill number = calls_for_report [] (λ files. prints []) (λ files. IsDrillText number) (λ files. IsDrillBegun number)

-- the causes with which a drill ends: its output is out or failed, or memory ran out
abbrev pub EndsDrill : Cause → Type 0
EndsDrill Output = ⊤
EndsDrill Memory = ⊤
EndsDrill cause = MayPrint cause

-- an output beside any folder, of which this is told
abbrev pub output_beside : {O : Type 0} → SinkMeanings O → Outside → O → Outside
output_beside o folder out = record folder { written = o.written out; output_faults = o.faults out }
