use Rattle.acas_report_laws.proofs.Honest.{boxes_hold, cells_hold, meetings_hold}
use Rattle.acas_report_laws.proofs.laws.printed_rulings_hold.Goals as goal

pub returns : goal.returns
returns c = record { cells = cells_hold; boxes = boxes_hold; meetings = meetings_hold }
