-- The passes of a hunt by what they move, and their order.
use Rattle.std.specs.Prelude.{Option, Some, List, ◌∷◌, map, ℤ}
use Rattle.std.specs.Option.{option_map}
use Rattle.acas_areas.specs.Passes.{Pass}
use Rattle.acas_witness_search.specs.declared.quantity.Quantity.{Quantity}
use Rattle.acas_witness_search.specs.declared.quantity.Quantity.TheVariants.{Time, Altitude, Intruder}
use Rattle.acas_witness_search.specs.Order as quantities
use Rattle.acas_witness_search.specs.Passes as searched
use Rattle.acas_witness_search.specs.Surveys.{pass_of}
use Rattle.acas_rulings.specs.Hunt.{Course, Hunt, bottom, goal_pass, passes, top, toward}
use Rattle.acas_meeting_search.specs.declared.stage.Stage.{Stage}
use Rattle.acas_meeting_search.specs.declared.stage.Stage.TheVariants.{Of, Goal}

-- what the next pass moves: after the altitude the goal, and else the next quantity
abbrev pub next_of : Stage → Option Stage
next_of (Of Altitude) = Some Goal
next_of (Of q) = option_map Of (quantities.next_of q)
next_of Goal = Some (Of Intruder)

-- the intruder's goal: until it has moved its greatest rate, and then its least
abbrev pub goal_in : Quantity → Hunt → ℤ
goal_in Time h = top h
goal_in Altitude h = top h
goal_in _ h = bottom h

-- the pass that moves it
abbrev pub pass_in : Stage → Hunt → Pass Course
pass_in (Of q) h = toward (goal_in q h) (pass_of q h.search)
pass_in Goal h = goal_pass h

-- the passes from that on: after that over the goal those of a search, toward the least rate
abbrev pub passes_from : Stage → Hunt → List (Pass Course)
passes_from (Of Time) h = passes h
passes_from (Of Altitude) h = pass_in (Of Altitude) h ∷ pass_in Goal h ∷ map (toward (bottom h)) (searched.passes_from Intruder h.search)
passes_from (Of q) h = map (toward (bottom h)) (searched.passes_from q h.search)
passes_from Goal h = pass_in Goal h ∷ map (toward (bottom h)) (searched.passes_from Intruder h.search)
