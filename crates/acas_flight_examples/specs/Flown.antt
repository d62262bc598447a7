-- A small model, what its advisory asks, and areas and searches under it.
use Rattle.std.specs.Prelude.{pos, [], ◌∷◌, codes}
use Rattle.acas_spec.specs.Model.{ModelData}
use Rattle.acas_flight.specs.Response.{Demand}
use Rattle.acas_flight.specs.State.{Box}
use Rattle.acas_flight.specs.Clear.{Area}
use Rattle.acas_examples.specs.Models.{at_one_speed}
use Rattle.acas_examples.specs.Parts.{clear, two_rates}
use Rattle.acas_flight_examples.specs.Numbers.{area, from_to}

-- Altitudes from 0 to 1200 ticks, rates from 0 to 600 ft/min. Climb asks for 1000 to 2000 ft/min, with at least 100 ft/min per
-- second and at most 200, after a hold of at most 2 seconds. The puck's radius is 500 ft and half of its height 120 ticks, and
-- closing speeds go from 250 to 500 ft/s.
abbrev pub small : ModelData
small = record (at_one_speed (two_rates (pos 1200) 2) (clear ∷ record { name = codes "climb"; lo = pos 1000; hi = pos 2000 } ∷ []) [] [] 120 (pos 1)) {
  pull = 100;
  limit = 200;
  delay = 2;
  least_closing = 250;
}

-- the same, where intruders fly at 0 to 300 ft/min
abbrev pub slow_intruders : ModelData
slow_intruders = record small { grid = record small.grid { v1 = pos 0 ∷ pos 300 ∷ [] } }

-- what climb asks
abbrev pub climbing : Demand
climbing = record { lo = pos 1000; hi = pos 2000; pull = 100; limit = 200; delay = 2 }

-- a rate of 0
abbrev pub level : Demand
level = record { lo = pos 0; hi = pos 0; pull = 100; limit = 200; delay = 2 }

-- both fly level at one altitude
abbrev pub level_area : Area
level_area = area (from_to (pos 0) (pos 0)) (from_to (pos 0) (pos 0)) (from_to (pos 0) (pos 0))

-- altitudes from 10 to 1200 ticks, own rates from 500 to 600 ft/min, intruder rates from 20 to 100
abbrev pub near_area : Area
near_area = area (from_to (pos 10) (pos 1200)) (from_to (pos 500) (pos 600)) (from_to (pos 20) (pos 100))

-- ranges from 1000 to 1200 ft, closing speeds from 250 to 500 ft/s, and the altitudes and rates of that area
abbrev pub near_box : Box
near_box = record {
  range = from_to (pos 1000) (pos 1200);
  closing = from_to (pos 250) (pos 500);
  altitude = near_area.altitude;
  own = near_area.own;
  intruder = near_area.intruder;
}
