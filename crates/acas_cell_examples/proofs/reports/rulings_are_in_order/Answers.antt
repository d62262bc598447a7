use Rattle.std.proofs.Common.{ℕ, refl, [], ◌∷◌, arith}
use Rattle.std.proofs.lemmas.List.Elements.{All-from_recursion}
use Rattle.acas_report_lines.specs.Report.{Ruled}
use Rattle.acas_cell_examples.specs.Reports.{IsItself, on}
use Rattle.acas_cell_examples.proofs.reports.rulings_are_in_order.Goals as goal

pub returns-clause-both : goal.returns-clause-both
returns-clause-both c = record { all = refl; each = All-from_recursion (λ (r : Ruled ℕ ℕ). IsItself r.name r.ruling) (on 1 1 ∷ on 2 2 ∷ []) (refl, (refl, tt)) }

pub returns-clause-not_its_own : goal.returns-clause-not_its_own
returns-clause-not_its_own c a = omega (arith, a.each 1 (on 0 0) (omega arith))
