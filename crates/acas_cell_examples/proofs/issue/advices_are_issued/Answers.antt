use Rattle.acas_cell_examples.proofs.Issued as issued
use Rattle.acas_cell_examples.proofs.issue.advices_are_issued.Goals as goal

pub returns-clause-first_layer : goal.returns-clause-first_layer
returns-clause-first_layer c = issued.first_layer

pub returns-clause-second_layer : goal.returns-clause-second_layer
returns-clause-second_layer c = issued.second_layer

pub returns-clause-at_horizon : goal.returns-clause-at_horizon
returns-clause-at_horizon c = issued.at_horizon

pub returns-clause-middle : goal.returns-clause-middle
returns-clause-middle c = issued.middle

pub returns-clause-past_middle : goal.returns-clause-past_middle
returns-clause-past_middle c = issued.past_middle

pub returns-clause-above_the_grid : goal.returns-clause-above_the_grid
returns-clause-above_the_grid c = issued.above_the_grid

pub returns-clause-under_climb : goal.returns-clause-under_climb
returns-clause-under_climb c = issued.under_climb

pub returns-clause-under_clear : goal.returns-clause-under_clear
returns-clause-under_clear c = issued.under_clear

pub returns-clause-behind : goal.returns-clause-behind
returns-clause-behind c = issued.behind
