use Rattle.acas_cell_examples.proofs.Decided.{both, lower_alone, lower_of_both, lower_untabled, none_of_both, upper_of_both}
use Rattle.acas_cell_examples.proofs.decisions.blocks_are_decided.Goals as goal

pub returns-clause-one : goal.returns-clause-one
returns-clause-one c = lower_alone

pub returns-clause-none : goal.returns-clause-none
returns-clause-none c = lower_untabled

pub returns-clause-both : goal.returns-clause-both
returns-clause-both c = both

pub returns-clause-upper : goal.returns-clause-upper
returns-clause-upper c = upper_of_both

pub returns-clause-later : goal.returns-clause-later
returns-clause-later c = lower_of_both

pub returns-clause-nowhere : goal.returns-clause-nowhere
returns-clause-nowhere c = none_of_both
