use Rattle.acas_report_laws.proofs.Reports.{begun_meetings, one_meetings, some_meetings}
use Rattle.acas_report_laws.proofs.laws.verdicts_make_one_report.Goals as goal

pub returns : goal.returns
returns c = record { some = some_meetings; one = one_meetings; begun = begun_meetings }
