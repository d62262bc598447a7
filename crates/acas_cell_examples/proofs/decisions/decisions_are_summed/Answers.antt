use Rattle.std.proofs.Common.{◌≡◌, ℕ, ◌+◌, refl, subst, arith}
use Rattle.acas_cells.specs.Blocks.{all_cells}
use Rattle.acas_audit_blocks.specs.Decisions.{AreDecisionsOf, IsDecidedBy}
use Rattle.acas_cells.specs.DecisionCounts.{no_more, one_more}
use Rattle.acas_cell_examples.specs.Tabled.{stacked, tabled}
use Rattle.acas_cell_examples.proofs.Decided.{both, lower_of_both, none_of_both, upper_of_both}
use Rattle.acas_cell_examples.proofs.decisions.decisions_are_summed.Goals as goal

-- none for clear of conflict, and those for climb
under_both : (n present number : ℕ) → IsDecidedBy stacked tabled n present 1 (all_cells stacked) number → AreDecisionsOf stacked tabled n present number
under_both n present number d =
    let e : 0 + number ≡ number = omega arith in
    subst (λ (x : ℕ). AreDecisionsOf stacked tabled n present x) e (one_more 1 0 number (one_more 0 0 0 no_more refl) d)

pub returns-clause-both : goal.returns-clause-both
returns-clause-both c = under_both 0 0 3 both

pub returns-clause-all : goal.returns-clause-all
returns-clause-all c =
    one_more 1 5 2
    (one_more 0 0 5 no_more (one_more 1 3 2 (one_more 0 0 3 no_more (under_both 0 0 3 both)) (under_both 0 1 2 upper_of_both)))
    (one_more 1 2 0 (one_more 0 0 2 no_more (under_both 1 0 2 lower_of_both)) (under_both 1 1 0 none_of_both))
