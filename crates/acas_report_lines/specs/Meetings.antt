-- The report of a box file against an intruder that may change its rate.
use Rattle.std.specs.Prelude.{ℕ, List, ◌++◌, codes, Bool, true, false, Option}
use Rattle.acas_spec.specs.Model.{ModelData}
use Rattle.acas_rulings.specs.Boxes.{AuditedBox, box_at}
use Rattle.acas_rulings.specs.Intruder.{Manoeuvre}
use Rattle.acas_rulings.specs.PrintedMeetings.{against_of}
use Rattle.acas_rulings.specs.Verdicts.{IsMeetVerdict}
use Rattle.acas_rulings.specs.declared.meeting.Meeting.{Meeting}
use Rattle.acas_rulings.specs.declared.verdict.MeetVerdict.{MeetVerdict}
use Rattle.acas_rulings.specs.declared.verdict.MeetVerdict.TheVariants.{Certified, Reported}
use Rattle.acas_report_lines.specs.Text.{labelled, response_text, witness_text}
use Rattle.acas_report_lines.specs.Report.{Ruled, IsReportOn, IsBegun}
use Rattle.acas_report_lines.specs.Regions.{boxes_text, places}
use Rattle.acas_report_lines.specs.declared.counts.Counts.{Counts}
use Rattle.acas_report_lines.specs.declared.meet_counts.MeetCounts.{MeetCounts}

-- the verdict says that nothing is endangered
abbrev pub is_safe : MeetVerdict → Bool
is_safe Certified = true
is_safe (Reported meeting) = false

-- the text of a witness, and the segments of the intruder
unfoldable pub meeting_text : Meeting → List ℕ
meeting_text w = witness_text w.witness ++ labelled (codes "against") (response_text (against_of w))

-- what a line says of a box
abbrev pub meet_text : MeetVerdict → List ℕ
meet_text Certified = codes " certified\n"
meet_text (Reported w) = codes " reported" ++ meeting_text w ++ codes "\n"

-- a verdict on the box at a place
abbrev pub IsMeetVerdictAt : ModelData → Manoeuvre → List AuditedBox → ℕ → MeetVerdict → Type 0
IsMeetVerdictAt m may boxes place verdict = IsMeetVerdict m may (box_at boxes place) verdict

-- the lines of boxes, and then the counts
abbrev pub meetings_text : List (Ruled ℕ MeetVerdict) → List ℕ
meetings_text ruled = boxes_text is_safe meet_text ruled

-- the same numbers, with no clear cells
abbrev pub as_counts : MeetCounts → Counts
as_counts counts = record { certified = counts.certified; reported = counts.reported; clear = 0 }

-- A report of a box file: there is a verdict on each of its boxes, and the text is their lines and the counts.
abbrev pub IsMeetingsReport : ModelData → Manoeuvre → List AuditedBox → MeetCounts → List ℕ → Type 0
IsMeetingsReport m may boxes counts text = IsReportOn (IsMeetVerdictAt m may boxes) is_safe (places boxes) 0 meetings_text (as_counts counts) text

-- a report of a box file that was begun
abbrev pub IsMeetingsBegun : ModelData → Manoeuvre → List AuditedBox → Option (List ℕ) → Option (List ℕ) → Type 0
IsMeetingsBegun m may boxes old new = IsBegun (IsMeetVerdictAt m may boxes) (places boxes) meetings_text old new
