-- The witness: which flight into the puck is printed for an area that is not clear, and that it is one.
use Rattle.std.specs.Prelude.{◌≡◌, ℕ, unsigned_abs, List, ℤ, pos, ◌*ℤ◌}
use Rattle.std.specs.List.{All}
use Rattle.acas_spec.specs.Model.{ModelData}
use Rattle.acas_frac.specs.Fraction.{Fraction, IsReduced}
use Rattle.acas_flight.specs.Response.{Segment, Demand, demand_of, lasting}
use Rattle.acas_flight.specs.Window.{Times, IsDuring}
use Rattle.acas_flight.specs.Clear.{Area, EndsInVerticalContact, IsClear, IsEndangeredDuring}
use Rattle.acas_flight.specs.Extremes.{IsLowExtreme, IsHighExtreme}
use Rattle.acas_flight.specs.Values.{IsOver}
use Rattle.acas_areas.specs.Flights.{Flight}
use Rattle.acas_areas.specs.Search.{Search, IsFound, unit}
use Rattle.acas_areas.specs.View.{area_of, times_of}
use Rattle.acas_areas.specs.declared.parts.BoxState.{BoxState}
use Rattle.acas_areas.specs.declared.parts.Window.{Window}
use Rattle.acas_rulings.specs.declared.flight.Flight as printed
use Rattle.acas_rulings.specs.Printed.{Prints, AreParts, segments_of, flight_fractions}

-- the search of an area under a demand from one time to another
abbrev pub search_between : Demand → Area → Fraction → Fraction → Search
search_between a area low high = record { demand = a; area = area; low = low; high = high }

-- The witness of an area that is not clear: the flight that is found between the low flight, at the earliest time of the least gap,
-- and the high flight, at the earliest time of the greatest gap.
pub record IsWitnessOf (half : ℕ) (a : Demand) (area : Area) (w : Times) (f : printed.Flight) : Type 0 where
  pub low : Fraction
  pub high : Fraction
  pub at_low : IsLowExtreme a area w low
  pub at_high : IsHighExtreme a area w high
  pub flight : Flight
  pub found : IsFound half (search_between a area low high) flight
  pub prints : Prints (unit (search_between a area low high)) flight f

-- Over some q the printed flight has a state of the area, and the printed response meets the demand, lasts its time, which is one of
-- the window, and ends within the half height; and each printed fraction is in lowest terms.
pub record IsFlightInContact (half : ℕ) (a : Demand) (area : Area) (w : Times) (f : printed.Flight) : Type 0 where
  pub q : ℕ
  pub altitude : ℤ
  pub own : ℤ
  pub intruder : ℤ
  pub response : List Segment
  pub time_over : IsOver q (pos (lasting response)) f.time
  pub altitude_over : altitude ≡ f.h *ℤ pos q
  pub own_over : IsOver q own f.v0
  pub intruder_over : IsOver q intruder f.v1
  pub flown : AreParts q response (segments_of f)
  pub contact : EndsInVerticalContact half a area w q altitude own intruder response
  pub reduced : All IsReduced (flight_fractions f)

-- ---- the same of a window of an area, under an advisory of a model

abbrev pub IsClearIn : ModelData → ℕ → BoxState → Window → Type 0
IsClearIn m advisory area window = IsClear m.half (demand_of m advisory) (area_of area) (times_of window)

abbrev pub IsEndangeredIn : ModelData → ℕ → BoxState → Window → Type 0
IsEndangeredIn m advisory area window = IsEndangeredDuring m.half (demand_of m advisory) (area_of area) (times_of window)

abbrev pub IsWitnessIn : ModelData → ℕ → BoxState → Window → printed.Flight → Type 0
IsWitnessIn m advisory area window f = IsWitnessOf m.half (demand_of m advisory) (area_of area) (times_of window) f

abbrev pub IsInContactIn : ModelData → ℕ → BoxState → Window → printed.Flight → Type 0
IsInContactIn m advisory area window f = IsFlightInContact m.half (demand_of m advisory) (area_of area) (times_of window) f

-- the time is one of the window
abbrev pub IsTimeOf : Window → Fraction → Type 0
IsTimeOf window time = IsDuring time.den (times_of window) (unsigned_abs time.num)
