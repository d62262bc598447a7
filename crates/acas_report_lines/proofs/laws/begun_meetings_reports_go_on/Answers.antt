use Rattle.std.proofs.Common.{refl}
use Rattle.acas_report_lines.specs.Meetings.{IsMeetVerdictAt, is_safe, meetings_text}
use Rattle.acas_report_lines.specs.Regions.{places}
use Rattle.acas_report_lines.specs.Report.{counts_of}
use Rattle.acas_report_lines.proofs.Begun.{goes_on}
use Rattle.acas_report_lines.proofs.laws.begun_meetings_reports_go_on.Goals as goal

pub returns : goal.returns
returns c m may boxes old new all begun =
    let whole = goes_on (IsMeetVerdictAt m may boxes) is_safe (places boxes) 0 meetings_text old new all begun in
    let report = whole.2 in
    let counts = counts_of is_safe report.ruled 0 in (
      record { certified = counts.certified; reported = counts.reported },
      whole.1,
      record { ruled = report.ruled; rulings = report.rulings; counted = refl; printed = report.printed },
      whole.3,
    )
