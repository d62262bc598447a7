use Rattle.std.proofs.Common.{inl, inr, pos, arith}
use Rattle.std.proofs.lemmas.Int.{ints}
use Rattle.acas_replay.proofs.Issued.{issued_same}
use Rattle.acas_cell_examples.specs.Encounters.{at, point}
use Rattle.acas_cell_examples.specs.Tabled.{stacked, tabled}
use Rattle.acas_cell_examples.proofs.Issued as issued
use Rattle.acas_cell_examples.proofs.issue.issued_advices_are_one.Goals as goal

pub returns-clause-past_horizon : goal.returns-clause-past_horizon
returns-clause-past_horizon c advice (inl none) = none.1
returns-clause-past_horizon c advice (inr found) = absurd (omega (arith, ints, found.advised.tabled, found.advised.is_layer.near))

pub returns-clause-at_horizon : goal.returns-clause-at_horizon
returns-clause-at_horizon c advice i = issued_same stacked tabled (at 0 (pos 1000) (point (pos 0) (pos 0) (pos 0))) advice 1 i issued.at_horizon

pub returns-clause-middle : goal.returns-clause-middle
returns-clause-middle c advice i = issued_same stacked tabled (at 0 (pos 750) (point (pos 60) (pos 600) (pos 600))) advice 1 i issued.middle

pub returns-clause-past_middle : goal.returns-clause-past_middle
returns-clause-past_middle c advice i = issued_same stacked tabled (at 0 (pos 750) (point (pos 61) (pos 600) (pos 600))) advice 0 i issued.past_middle

pub returns-clause-above_the_grid : goal.returns-clause-above_the_grid
returns-clause-above_the_grid c advice i = issued_same stacked tabled (at 0 (pos 750) (point (pos 999) (pos 0) (pos 0))) advice 1 i issued.above_the_grid
