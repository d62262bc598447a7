-- What the table issues at states.
use Rattle.std.proofs.Common.{inr, pos, refl, rules}
use Rattle.acas_grid.specs.Grid.{IsVertex}
use Rattle.acas_replay.specs.Issue.{IsIssued}
use Rattle.acas_flight_examples.specs.Numbers.{minus}
use Rattle.acas_cell_examples.specs.Encounters.{at, point}
use Rattle.acas_cell_examples.specs.Tabled.{stacked, tabled, vertex}
use Rattle.acas_cell_examples.proofs.Nearest.{nearest_of}

first_is : IsVertex stacked.grid (vertex 0 0 0)
first_is = search rules

lower_is : IsVertex stacked.grid (vertex 0 1 1)
lower_is = search rules

upper_is : IsVertex stacked.grid (vertex 1 1 1)
upper_is = search rules

top_is : IsVertex stacked.grid (vertex 2 0 0)
top_is = search rules

last_is : IsVertex stacked.grid (vertex 2 1 1)
last_is = search rules

pub first_layer : IsIssued stacked tabled (at 0 (pos 750) (point (pos 0) (pos 600) (pos 600))) 1
first_layer = inr (record { layer = 1; advised = search rules; vertex = vertex 0 1 1; nearest = nearest_of (point (pos 0) (pos 600) (pos 600)) (vertex 0 1 1) lower_is refl; tabled = refl })

pub second_layer : IsIssued stacked tabled (at 0 (pos 751) (point (pos 0) (pos 600) (pos 600))) 0
second_layer = inr (record { layer = 2; advised = search rules; vertex = vertex 0 1 1; nearest = nearest_of (point (pos 0) (pos 600) (pos 600)) (vertex 0 1 1) lower_is refl; tabled = refl })

pub at_horizon : IsIssued stacked tabled (at 0 (pos 1000) (point (pos 0) (pos 0) (pos 0))) 1
at_horizon = inr (record { layer = 2; advised = search rules; vertex = vertex 0 0 0; nearest = nearest_of (point (pos 0) (pos 0) (pos 0)) (vertex 0 0 0) first_is refl; tabled = refl })

pub middle : IsIssued stacked tabled (at 0 (pos 750) (point (pos 60) (pos 600) (pos 600))) 1
middle = inr (record { layer = 1; advised = search rules; vertex = vertex 0 1 1; nearest = nearest_of (point (pos 60) (pos 600) (pos 600)) (vertex 0 1 1) lower_is refl; tabled = refl })

pub past_middle : IsIssued stacked tabled (at 0 (pos 750) (point (pos 61) (pos 600) (pos 600))) 0
past_middle = inr (record { layer = 1; advised = search rules; vertex = vertex 1 1 1; nearest = nearest_of (point (pos 61) (pos 600) (pos 600)) (vertex 1 1 1) upper_is refl; tabled = refl })

pub above_the_grid : IsIssued stacked tabled (at 0 (pos 750) (point (pos 999) (pos 0) (pos 0))) 1
above_the_grid = inr (record { layer = 1; advised = search rules; vertex = vertex 2 0 0; nearest = nearest_of (point (pos 240) (pos 0) (pos 0)) (vertex 2 0 0) top_is refl; tabled = refl })

pub under_climb : IsIssued stacked tabled (at 1 (pos 750) (point (pos 240) (pos 600) (pos 600))) 1
under_climb = inr (record { layer = 1; advised = search rules; vertex = vertex 2 1 1; nearest = nearest_of (point (pos 240) (pos 600) (pos 600)) (vertex 2 1 1) last_is refl; tabled = refl })

pub under_clear : IsIssued stacked tabled (at 0 (pos 750) (point (pos 240) (pos 600) (pos 600))) 0
under_clear = inr (record { layer = 1; advised = search rules; vertex = vertex 2 1 1; nearest = nearest_of (point (pos 240) (pos 600) (pos 600)) (vertex 2 1 1) last_is refl; tabled = refl })

pub behind : IsIssued stacked tabled (at 0 (minus 500) (point (pos 0) (pos 600) (pos 600))) 1
behind = inr (record { layer = 1; advised = search rules; vertex = vertex 0 1 1; nearest = nearest_of (point (pos 0) (pos 600) (pos 600)) (vertex 0 1 1) lower_is refl; tabled = refl })
