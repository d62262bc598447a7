use Rattle.std.proofs.Common.{pos, refl, arith, rules}
use Rattle.acas_grid.specs.Grid.{IsVertex}
use Rattle.acas_cell_examples.specs.Encounters.{point}
use Rattle.acas_cell_examples.specs.Tabled.{stacked, vertex}
use Rattle.acas_cell_examples.proofs.Nearest.{nearest_of}
use Rattle.acas_cell_examples.proofs.issue.vertices_are_nearest_or_not.Goals as goal

lower_is : IsVertex stacked.grid (vertex 0 1 1)
lower_is = search rules

upper_is : IsVertex stacked.grid (vertex 1 1 1)
upper_is = search rules

pub returns-clause-below : goal.returns-clause-below
returns-clause-below c = nearest_of (point (pos 59) (pos 600) (pos 600)) (vertex 0 1 1) lower_is refl

pub returns-clause-not_above : goal.returns-clause-not_above
returns-clause-not_above c n = omega (arith, n.greatest (vertex 0 1 1) lower_is)

pub returns-clause-middle : goal.returns-clause-middle
returns-clause-middle c = nearest_of (point (pos 60) (pos 600) (pos 600)) (vertex 0 1 1) lower_is refl

pub returns-clause-not_the_later : goal.returns-clause-not_the_later
returns-clause-not_the_later c n = omega (arith, n.least (vertex 0 1 1) lower_is refl)

pub returns-clause-above : goal.returns-clause-above
returns-clause-above c = nearest_of (point (pos 61) (pos 600) (pos 600)) (vertex 1 1 1) upper_is refl

pub returns-clause-not_below : goal.returns-clause-not_below
returns-clause-not_below c n = omega (arith, n.greatest (vertex 1 1 1) upper_is)

pub returns-clause-middle_rates : goal.returns-clause-middle_rates
returns-clause-middle_rates c = nearest_of (point (pos 240) (pos 300) (pos 300)) (vertex 2 0 0) (search rules) refl

pub returns-clause-past_middle : goal.returns-clause-past_middle
returns-clause-past_middle c = nearest_of (point (pos 240) (pos 301) (pos 300)) (vertex 2 1 0) (search rules) refl
