-- What `manoeuvre` is worth, in the words of the subject, over a folder that tells its files.
use Rattle.std.specs.Prelude.{◌≡◌, ◌≢◌, ℕ, List, Some}
use Rattle.std.specs.FinMap.{get}
use Rattle.acas_spec.specs.Model.{ModelData}
use Rattle.acas_outside.specs.Bytes.{Appends}
use Rattle.acas_outside.specs.Files.{Files}
use Rattle.acas_outside.specs.Outside.{Outside}
use Rattle.acas_doc.specs.declared.input_fault.InputFault.{InputFault}
use Rattle.acas_doc.specs.declared.input_fault.InputFault.TheVariants.{Rate}
use Rattle.acas_rulings.specs.Intruder.{Manoeuvre}
use Rattle.acas_rulings.specs.Meeting.{IsEndangeredBy}
use Rattle.acas_rulings.specs.Boxes.{AuditedBox, box_at}
use Rattle.acas_rulings.specs.Verdicts.{ShowsMeeting}
use Rattle.acas_rulings.specs.declared.verdict.MeetVerdict.{MeetVerdict}
use Rattle.acas_rulings.specs.declared.verdict.MeetVerdict.TheVariants.{Certified, Reported}
use Rattle.acas_boxes.specs.Rates.{AllRatesFit, IsFirstUnfit}
use Rattle.acas_boxes.specs.Text.{IsBoxesText}
use Rattle.acas_report_lines.specs.Meetings.{as_counts, is_safe, meetings_text}
use Rattle.acas_report_lines.specs.Regions.{places}
use Rattle.acas_report_lines.specs.Report.{IsReportOn}
use Rattle.acas_report_lines.specs.declared.meet_counts.MeetCounts.{MeetCounts}
use Rattle.acas_command.specs.Called.{MayPrint}
use Rattle.acas_command.specs.Outcome.{report_cause}
use Rattle.acas_command.specs.Says.{RejectsBeside, SaysBeside, SaysModel}
use Rattle.acas_command.specs.Worth.{IsNotRefused}
use Rattle.acas_command.specs.declared.status.Cause.{Cause}
use Rattle.acas_command.specs.declared.status.Cause.TheVariants.{Input}

-- certified: no response of the pilot and no flight of the intruder bring the box into contact; reported: some do, and the meeting shows
-- them
abbrev pub IsVerdictOn : ModelData → Manoeuvre → AuditedBox → MeetVerdict → Type 0
IsVerdictOn m may b Certified = ¬ IsEndangeredBy m b.advisory may b.states
IsVerdictOn m may b (Reported meeting) = ShowsMeeting m may b meeting

-- of the box at a place
abbrev pub IsVerdictOnBox : ModelData → Manoeuvre → List AuditedBox → ℕ → MeetVerdict → Type 0
IsVerdictOnBox m may said place verdict = IsVerdictOn m may (box_at said place) verdict

-- M says a model, B says boxes beside it whose rates the intruder may have, and what was printed is a report of them: each is ruled on,
-- in order. The cause says whether one is reported.
pub record PrintsManoeuvre (model boxes : List ℕ) (may : Manoeuvre) (files : Files) (cause : Cause) (before after : Outside) : Type 0 where
  pub m : ModelData
  pub said : List AuditedBox
  pub says : SaysBeside IsBoxesText model boxes files m said
  pub rates : AllRatesFit may said
  pub counts : MeetCounts
  pub text : List ℕ
  pub report : IsReportOn (IsVerdictOnBox m may said) is_safe (places said) 0 meetings_text (as_counts counts) text
  pub printed : Appends before.written after.written text
  pub kept : after.holds ≡ Some files
  pub reported : cause ≡ report_cause counts.reported

-- M says a model, and B says boxes beside it, of which this is the first whose rates the intruder may not have
pub record RejectsRates (model boxes : List ℕ) (may : Manoeuvre) (files : Files) (place : ℕ) : Type 0 where
  pub bytes : List ℕ
  pub m : ModelData
  pub given : List ℕ
  pub said : List AuditedBox
  pub says : SaysModel files model bytes m
  pub file : get files boxes ≡ Some given
  pub boxes_text : IsBoxesText m given said
  pub first : IsFirstUnfit may said place

-- `manoeuvre M B A C`: what a run has printed that is done or reports, and what one has rejected that is refused as boxes or by a rate;
-- and where M says a model and B says boxes beside it whose rates the intruder may have, it is not refused
pub record ManoeuvreIsWorth (model boxes : List ℕ) (may : Manoeuvre) (files : Files) (cause : Cause) (before after : Outside) : Type 0 where
  pub printed : MayPrint cause → PrintsManoeuvre model boxes may files cause before after
  pub refused : (fault : InputFault) → cause ≡ Input fault → ((place : ℕ) → fault ≢ Rate place) → RejectsBeside (λ m digest. IsBoxesText m) model boxes files
  pub unfit : (place : ℕ) → cause ≡ Input (Rate place) → RejectsRates model boxes may files place
  pub not_refused : (m : ModelData) (said : List AuditedBox) → SaysBeside IsBoxesText model boxes files m said → AllRatesFit may said → IsNotRefused cause before after
