-- The one report of an audit, of boxes, whether the intruder holds its rate or may change it, and of clear cells.
use Rattle.std.proofs.Common.{◌≡◌, ℕ, ◌<◌, ◌≤◌, List, length, Option}
use Rattle.acas_spec.specs.Limits.{IsModel}
use Rattle.acas_spec.specs.Model.{ModelData}
use Rattle.acas_base.specs.Advices.{AdvicesData}
use Rattle.acas_outside.specs.Bytes.{AppendsPart}
use Rattle.acas_flight.specs.Clear.{area_of_box}
use Rattle.acas_areas.specs.Limits.{IsArea}
use Rattle.acas_areas.specs.Search.{fastest}
use Rattle.acas_rulings.specs.Intruder.{Manoeuvre}
use Rattle.acas_rulings.specs.Boxes.{AreBoxesOf, AuditedBox, box_at}
use Rattle.acas_boxes.specs.Rates.{AllRatesFit}
use Rattle.acas_report_lines.specs.Meetings.{IsMeetingsBegun, IsMeetingsReport}
use Rattle.acas_report_lines.specs.Regions.{IsRegionsReport, IsRegionsReportBegun}
use Rattle.acas_report_lines.specs.declared.counts.Counts.{Counts}
use Rattle.acas_report_lines.specs.declared.counts.Which.{Which}
use Rattle.acas_report_lines.specs.declared.meet_counts.MeetCounts.{MeetCounts}
use Rattle.acas_report_lines.specs.CellReport.{IsReport, IsReportBegun}
use Rattle.acas_report_laws.proofs.Reports.{begun_audit, begun_meetings, begun_regions, one_audit, one_meetings, one_regions, some_audit, some_meetings, some_regions}
use Rattle.acas_safeable.specs.SafeableText.{IsSafeableBegun, IsSafeableReport}
use Rattle.acas_safeable.specs.declared.counts.SafeCounts.{SafeCounts}
use Rattle.acas_safeable.proofs.Reports.{begun_report, one_report, some_report}
use Rattle.acas_ruling_laws.proofs.MeetingOnes.{verdict-one}
use Rattle.acas_ruling_laws.proofs.MeetingSomes.{verdict-some}
use Rattle.acas_ruling_laws.proofs.RulingOnes.{boxes-one, cells-one}
use Rattle.acas_ruling_laws.proofs.RulingSomes.{boxes-some, cells-some}

-- an audit of a model has one report, and so have boxes and clear cells of it; what is begun of one is a part of it
pub record ReportsAreOne : Type 0 where
  pub audits_some : (m : ModelData) (a : AdvicesData) (lines : Which) → IsModel m → (counts : Counts) × (text : List ℕ) × IsReport m a lines counts text
  pub audits_one : (m : ModelData) (a : AdvicesData) (lines : Which) (counts c : Counts) (text t : List ℕ) → IsModel m → IsReport m a lines counts text → IsReport m a lines c t
      → (counts ≡ c) × (text ≡ t)
  pub boxes_some : (m : ModelData) (boxes : List AuditedBox) → IsModel m → AreBoxesOf m boxes → ((place : ℕ) → place < length boxes → IsArea (area_of_box (box_at boxes place).states))
      → (counts : Counts) × (text : List ℕ) × IsRegionsReport m boxes counts text
  pub boxes_one : (m : ModelData) (boxes : List AuditedBox) (counts c : Counts) (text t : List ℕ) → IsModel m → AreBoxesOf m boxes → IsRegionsReport m boxes counts text
      → IsRegionsReport m boxes c t → (counts ≡ c) × (text ≡ t)
  pub audits_begun : (m : ModelData) (a : AdvicesData) (lines : Which) (old new : Option (List ℕ)) (counts : Counts) (text : List ℕ) → IsModel m → IsReportBegun m a lines old new
      → IsReport m a lines counts text → AppendsPart old new text
  pub boxes_begun : (m : ModelData) (boxes : List AuditedBox) (old new : Option (List ℕ)) (counts : Counts) (text : List ℕ) → IsModel m → AreBoxesOf m boxes
      → IsRegionsReportBegun m boxes old new → IsRegionsReport m boxes counts text → AppendsPart old new text
  pub meetings_some : (m : ModelData) (may : Manoeuvre) (boxes : List AuditedBox) → IsModel m → AreBoxesOf m boxes
      → ((place : ℕ) → place < length boxes → IsArea (area_of_box (box_at boxes place).states)) → 0 < may.accel → may.rate ≤ fastest → AllRatesFit may boxes
      → (counts : MeetCounts) × (text : List ℕ) × IsMeetingsReport m may boxes counts text
  pub meetings_one : (m : ModelData) (may : Manoeuvre) (boxes : List AuditedBox) (counts c : MeetCounts) (text t : List ℕ) → IsModel m → AreBoxesOf m boxes → 0 < may.accel
      → IsMeetingsReport m may boxes counts text → IsMeetingsReport m may boxes c t → (counts ≡ c) × (text ≡ t)
  pub meetings_begun : (m : ModelData) (may : Manoeuvre) (boxes : List AuditedBox) (old new : Option (List ℕ)) (counts : MeetCounts) (text : List ℕ) → IsModel m → AreBoxesOf m boxes
      → 0 < may.accel → IsMeetingsBegun m may boxes old new → IsMeetingsReport m may boxes counts text → AppendsPart old new text
  pub clear_some : (m : ModelData) (a : AdvicesData) → IsModel m → (counts : SafeCounts) × (text : List ℕ) × IsSafeableReport m a counts text
  pub clear_one : (m : ModelData) (a : AdvicesData) (counts c : SafeCounts) (text t : List ℕ) → IsModel m → IsSafeableReport m a counts text → IsSafeableReport m a c t → (counts ≡ c) × (text ≡ t)
  pub clear_begun : (m : ModelData) (a : AdvicesData) (old new : Option (List ℕ)) (counts : SafeCounts) (text : List ℕ) → IsModel m → IsSafeableBegun m a old new
      → IsSafeableReport m a counts text → AppendsPart old new text

pub reports-one : ReportsAreOne
reports-one = record {
  audits_some = λ m a lines within. some_audit m a lines (λ name is. cells-some m name within is.cell is.advice);
  audits_one = λ m a lines counts c text t within report other.
      one_audit m a lines counts c text t (λ name is r q first second. cells-one m name r q within is.advice first second) report other;
  boxes_some = λ m boxes within fits areas. some_regions m boxes (λ place small. boxes-some m (box_at boxes place) within (fits.each place small) (areas place small));
  boxes_one = λ m boxes counts c text t within fits report other.
      one_regions m boxes counts c text t (λ place small r q first second. boxes-one m (box_at boxes place) r q within (fits.each place small) first second) report other;
  audits_begun = λ m a lines old new counts text within begun report.
      begun_audit m a lines old new counts text (λ name is r q first second. cells-one m name r q within is.advice first second) begun report;
  boxes_begun = λ m boxes old new counts text within fits begun report.
      begun_regions m boxes old new counts text (λ place small r q first second. boxes-one m (box_at boxes place) r q within (fits.each place small) first second) begun report;
  meetings_some = λ m may boxes within fits areas some fast rates.
      some_meetings m may boxes (λ place small. verdict-some m may (box_at boxes place) within (fits.each place small) (areas place small) some fast (rates.each place small));
  meetings_one = λ m may boxes counts c text t within fits some report other.
      one_meetings m may boxes counts c text t (λ place small r q first second. verdict-one m may (box_at boxes place) within (fits.each place small) some r q first second) report other;
  meetings_begun = λ m may boxes old new counts text within fits some begun report.
      begun_meetings m may boxes old new counts text (λ place small r q first second. verdict-one m may (box_at boxes place) within (fits.each place small) some r q first second) begun report;
  clear_some = λ m a within. some_report m a within;
  clear_one = λ m a counts c text t within report other. one_report m a counts c text t within report other;
  clear_begun = λ m a old new counts text within begun report. begun_report m a old new counts text within begun report;
}
