-- When the cells of n seconds and a present advisory are decided.
use Rattle.std.specs.Prelude.{◌≡◌, ℕ, ◌<◌, ◌||◌, true}
use Rattle.acas_spec.specs.Model.{ModelData}
use Rattle.acas_base.specs.Advices.{AdvicesData}
use Rattle.acas_flight.specs.Contact.{IsEndangeredCell}
use Rattle.acas_audit_blocks.specs.Audits.{BlockAuditData, HasSets, IsAuditOf, certified_at, reported_at}
use Rattle.acas_cells.specs.Cells.{IsCellOf, cell_at}
use Rattle.acas_cells.specs.Corners.{is_advised, under}
use Rattle.acas_rulings.specs.Rulings.{IsRulingOfCell}
use Rattle.acas_cells.specs.Sets.{holds}
use Rattle.acas_rulings.specs.declared.ruling.Ruling.TheVariants.{Certified}

-- The sets of each cell are there for a model. Each cell of n seconds and a present advisory is certified under each advice of the
-- first, and endangered under each of the second; in one of the two are the advices other than clear of conflict that are tabled at its
-- corners.
pub record IsReady (m : ModelData) (a : AdvicesData) (n present : ℕ) (audit : BlockAuditData) : Type 0 where
  pub cells : IsAuditOf m audit
  pub sets : HasSets audit
  pub safe : (i j k advice : ℕ) → IsCellOf m (cell_at n present i j k) → advice < m.grid.advisories →
      holds (certified_at audit i j k) advice ≡ true → IsRulingOfCell m (under (cell_at n present i j k) advice) Certified
  pub endangered : (i j k advice : ℕ) → IsCellOf m (cell_at n present i j k) → advice < m.grid.advisories →
      holds (reported_at audit i j k) advice ≡ true → IsEndangeredCell m n i j k advice
  pub tabled : (i j k advice : ℕ) → IsCellOf m (cell_at n present i j k) →
      (holds (certified_at audit i j k) advice || holds (reported_at audit i j k) advice) ≡ is_advised m a (cell_at n present i j k) advice
