-- Reports whose rulings say more.
use Rattle.std.proofs.Common.{ℕ, Bool, List}
use Rattle.acas_report_lines.specs.Report.{IsReportOn, Ruled}
use Rattle.acas_report_lines.specs.declared.counts.Counts.{Counts}

-- what follows from each ruling is so of a report's
pub report-of : {N K : Type 0} (R S : N → K → Type 0) (certified : K → Bool) (names : List N) (clear : ℕ) (text_of : List (Ruled N K) → List ℕ) (counts : Counts) (text : List ℕ) → ((name : N) (ruling : K) → R name ruling → S name ruling)
    → IsReportOn R certified names clear text_of counts text → IsReportOn S certified names clear text_of counts text
report-of R S certified names clear text_of counts text to report = record {
  ruled = report.ruled;
  rulings = record { all = report.rulings.all; each = λ k d within. to _ _ (report.rulings.each k d within) };
  counted = report.counted;
  printed = report.printed;
}
