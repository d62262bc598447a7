-- Models of one cell along each axis, and what a second under clear of conflict leads to.
use Rattle.std.specs.Prelude.{ℤ, pos, nat_eq, if◌then◌else◌, List, [], ◌∷◌, codes}
use Rattle.acas_spec.specs.Model.{ModelData}
use Rattle.acas_spec.specs.declared.parts.Advisory.{Advisory}
use Rattle.acas_flight.specs.Response.{Demand}
use Rattle.acas_flight.specs.State.{State}
use Rattle.acas_cells.specs.Cells.{Cell}
use Rattle.acas_safeable.specs.declared.outlook.Outlook.{Outlook}
use Rattle.acas_safeable.specs.declared.outlook.Outlook.TheVariants.{Safeable, Unshown}
use Rattle.acas_examples.specs.Models.{at_one_speed}
use Rattle.acas_examples.specs.Parts.{choice, clear, grid}
use Rattle.acas_flight_examples.specs.Numbers.{minus, state}

-- climb asks for 1500 ft/min or more
abbrev pub climb : Advisory
climb = record { name = codes "climb"; lo = pos 1500; hi = pos 10000 }

-- descend asks for the same downward
abbrev pub descend : Advisory
descend = record { name = codes "descend"; lo = minus 10000; hi = minus 1500 }

-- Two altitudes in ticks, own rates of 0 and 60 ft/min and intruder rates of -60 and 0, for two seconds. Under clear of conflict each
-- advisory may be chosen, in this order, and under the others clear alone. Half of the puck's height is 100 ft.
abbrev pub guarded : List ℤ → ModelData
guarded altitudes =
    at_one_speed (grid altitudes (pos 0 ∷ pos 60 ∷ []) (minus 60 ∷ pos 0 ∷ []) 3 2) (clear ∷ climb ∷ descend ∷ [])
    ((choice 2 (pos 0) ∷ choice 0 (pos 0) ∷ choice 1 (pos 0) ∷ []) ∷ (choice 0 (pos 0) ∷ []) ∷ (choice 0 (pos 0) ∷ []) ∷ []) [] 12000 (pos 5)

-- the intruder is from 3000 to 2000 ft below
abbrev pub far_below : ModelData
far_below = guarded (minus 360000 ∷ minus 240000 ∷ [])

-- the intruder is from 100 to 0 ft below
abbrev pub near_below : ModelData
near_below = guarded (minus 12000 ∷ pos 0 ∷ [])

-- a clear of conflict that asks for 1000 to 2000 ft/min
abbrev pub narrow : Demand
narrow = record { lo = pos 1000; hi = pos 2000; pull = 480; limit = 960; delay = 0 }

-- the same, where a pilot may hold the rate for a second
abbrev pub held_narrow : Demand
held_narrow = record { lo = pos 1000; hi = pos 2000; pull = 480; limit = 960; delay = 1 }

-- both level at one altitude, at 500 ft/s
abbrev pub level_at : ℤ → State
level_at range = state range (pos 500) (pos 0) (pos 0) (pos 0)

-- climb is found of each lower cell, and nothing of the upper ones
abbrev pub lower_alone : Cell → Outlook
lower_alone c = if nat_eq c.i 0 then Safeable 1 else Unshown
