use Rattle.std.proofs.Common.{refl}
use Rattle.acas_report_lines.specs.declared.counts.Which.TheVariants.{All}
use Rattle.acas_report_lines.specs.CellReport.{report_text}
use Rattle.acas_drill.proofs.counts.audit_counts.Goals as goal

pub returns-in-Ok : goal.returns-in-Ok
returns-in-Ok c =
    let report = c.in-Ok.ensures.report.1 in
    record {
      text = report_text c.args.model.now c.args.advices.now All report.ruled;
      report = record { ruled = report.ruled; rulings = report.rulings; counted = report.counted; printed = refl };
    }
