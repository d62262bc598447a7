use Rattle.acas_rulings.specs.Boxes.{box_at}
use Rattle.acas_ruling_laws.proofs.RulingOnes.{boxes-one, cells-one}
use Rattle.acas_ruling_laws.proofs.RulingSomes.{boxes-some, cells-some}
use Rattle.acas_report_laws.proofs.Reports.{one_audit, one_regions, some_audit, some_regions}
use Rattle.acas_report_laws.proofs.laws.reports_are_one.Goals as goal

pub returns : goal.returns
returns c = record {
  audits_some = λ m a lines model. some_audit m a lines (λ name is. cells-some m name model is.cell is.advice);
  audits_one = λ m a lines counts n text t model report other.
      one_audit m a lines counts n text t (λ name is r q ir iq. cells-one m name r q model is.advice ir iq) report other;
  boxes_some = λ m boxes model are areas. some_regions m boxes (λ place l. boxes-some m (box_at boxes place) model (are.each place l) (areas place l));
  boxes_one = λ m boxes counts n text t model are report other.
      one_regions m boxes counts n text t (λ place l r q ir iq. boxes-one m (box_at boxes place) r q model (are.each place l) ir iq) report other;
}
