use Rattle.acas_safeable.proofs.Later.{shown_is_safe}
use Rattle.acas_safeable.proofs.Reports.{one_report}
use Rattle.acas_safeable.proofs.Shown.{outlook-same, outlook-some}
use Rattle.acas_safeable.proofs.laws.outlooks_are_one.Goals as goal

pub returns-clause-safe : goal.returns-clause-safe
returns-clause-safe c = λ m cell advisory is inside later. shown_is_safe m cell advisory is later

pub returns-clause-one : goal.returns-clause-one
returns-clause-one c = λ m cell found other is inside later. outlook-same m cell is later found other

pub returns-clause-some : goal.returns-clause-some
returns-clause-some c = λ m cell is inside later. outlook-some m cell is later inside

pub returns-clause-one_report : goal.returns-clause-one_report
returns-clause-one_report c = one_report
