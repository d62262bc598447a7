use Rattle.acas_cells.specs.Blocks.{all_cells}
use Rattle.acas_audit_blocks.proofs.Counted.{one_number}
use Rattle.acas_cell_examples.specs.Tabled.{stacked, tabled}
use Rattle.acas_cell_examples.proofs.Decided.{both, lower, lower_alone, none_of_both, upper_of_both}
use Rattle.acas_cell_examples.proofs.decisions.decided_numbers_are_one.Goals as goal

pub returns-clause-both : goal.returns-clause-both
returns-clause-both c number d = one_number stacked tabled 0 0 1 (all_cells stacked) number 3 d both

pub returns-clause-upper : goal.returns-clause-upper
returns-clause-upper c number d = one_number stacked tabled 0 1 1 (all_cells stacked) number 2 d upper_of_both

pub returns-clause-lower : goal.returns-clause-lower
returns-clause-lower c number d = one_number stacked tabled 0 0 1 lower number 1 d lower_alone

pub returns-clause-nowhere : goal.returns-clause-nowhere
returns-clause-nowhere c number d = one_number stacked tabled 1 1 1 (all_cells stacked) number 0 d none_of_both
