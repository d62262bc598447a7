use Rattle.acas_rulings.specs.Boxes.{box_at}
use Rattle.acas_ruling_laws.proofs.RulingOnes.{boxes-one, cells-one}
use Rattle.acas_report_laws.proofs.Reports.{begun_audit, begun_regions}
use Rattle.acas_report_laws.proofs.laws.begun_reports_begin_the_report.Goals as goal

pub returns : goal.returns
returns c = record {
  audits = λ m a lines old new counts text model begun report.
      begun_audit m a lines old new counts text (λ name is r q ir iq. cells-one m name r q model is.advice ir iq) begun report;
  boxes = λ m boxes old new counts text model are begun report.
      begun_regions m boxes old new counts text (λ place l r q ir iq. boxes-one m (box_at boxes place) r q model (are.each place l) ir iq) begun report;
}
