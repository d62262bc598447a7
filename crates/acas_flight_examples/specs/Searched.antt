-- Flights, passes and a search whose numbers were also worked out by hand.
use Rattle.std.specs.Prelude.{ℕ, ℤ, pos, ◌*◌, Bool, nat_eq, ◌||◌, List, map}
use Rattle.acas_areas.specs.Flights.{Flight, flight}
use Rattle.acas_areas.specs.Passes.{Pass, moving_down}
use Rattle.acas_areas.specs.Search.{Search, passes}
use Rattle.acas_flight_examples.specs.Flown.{climbing, level, level_area, near_area}
use Rattle.acas_flight_examples.specs.Numbers.{from_to, over}

-- from 500 ft/min to 1000, with 100 ft/min per second after a hold of 2 s; the intruder starts at 1200 ticks and flies at 100 ft/min
abbrev pub after_a_hold : ℕ → Flight
after_a_hold time = flight time (pos 1200) (pos 500) (pos 100) (pos 1000) 100 2

-- the same of 7 s, over 2
abbrev pub over_two : Flight
over_two = flight 14 (pos 1200) (pos 2000) (pos 400) (pos 4000) 200 4

-- a flight of no time, which ends as far below the intruder as it starts
abbrev pub at_start : ℤ → Flight
at_start altitude = flight 0 altitude (pos 0) (pos 0) (pos 0) 1 0

-- flights of so many seconds
abbrev pub lasting_for : ℕ → Flight
lasting_for time = flight time (pos 0) (pos 0) (pos 0) (pos 0) 1 0

-- from 500 ticks below the intruder to 300, and from there to its altitude, by 100 ticks a step
abbrev pub far_below : Pass Flight
far_below = moving_down at_start (pos 500) (pos 300) 100

abbrev pub up_to_it : Pass Flight
up_to_it = moving_down at_start (pos 300) (pos 0) 100

-- the points 0 and 2 alone are below
abbrev pub first_or_third : ℕ → Bool
first_or_third i = nat_eq i 0 || nat_eq i 2

-- a pass of a way and a step
abbrev pub stepping : ℕ → ℕ → Pass Flight
stepping way step = record { point = lasting_for; way = way; step = step }

-- the area is searched from 1/2 s to 7/3 s
abbrev pub searched : Search
searched = record { demand = climbing; area = near_area; low = over (pos 1) 2; high = over (pos 7) 3 }

-- the same, where own rates go on to 2500 ft/min, past what climb asks
abbrev pub past_hi : Search
past_hi = record searched { area = record near_area { own = from_to (pos 500) (pos 2500) } }

-- two aircraft that fly level at one altitude, from 1 s to 2 s
abbrev pub level_search : Search
level_search = record { demand = level; area = level_area; low = over (pos 1) 1; high = over (pos 2) 1 }

-- the square of the unit of the search over the small model's area, and an eighth of that
abbrev pub square : ℕ
square = 12_288 * 12_288

abbrev pub eighth : ℕ
eighth = 18_874_368

-- how far the passes of a search go, and how large their steps are
abbrev pub ways : Search → List ℕ
ways s = map (λ p. p.way) (passes s)

abbrev pub steps : Search → List ℕ
steps s = map (λ p. p.step) (passes s)

-- where their second flights are
abbrev pub seconds : Search → List Flight
seconds s = map (λ p. p.point 1) (passes s)
