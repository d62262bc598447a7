-- The area that is reached from a cell within a second under clear of conflict.
use Rattle.std.specs.Prelude.{ℕ, ◌*◌, ◌≤◌, ℤ, pos, ◌+ℤ◌, ◌-ℤ◌, ◌*ℤ◌, int_lt, unsigned_abs, if◌then◌else◌}
use Rattle.std.specs.Int.{int_max, int_min}
use Rattle.acas_units.specs.declared.limits.TheConstants.{GREATEST_ALTITUDE}
use Rattle.acas_units.specs.declared.ticks.TheConstants.{TICKS_PER_FOOT}
use Rattle.acas_spec.specs.Model.{ModelData}
use Rattle.acas_frac.specs.Rounding.{down, up}
use Rattle.acas_flight.specs.Response.{Demand, demand_of}
use Rattle.acas_flight.specs.State.{Interval, from_place}
use Rattle.acas_flight.specs.Clear.{Area}
use Rattle.acas_flight.specs.Curves.{high_pull, highest, low_pull, lowest}

-- how far the intruder is above after a second at the least, in ticks and rounded down: its least altitude and its climb at its least
-- rate, less the greatest own climb
abbrev pub least_altitude : Demand → Interval → Interval → Interval → ℤ
least_altitude a h v w =
    down ((h.least +ℤ pos 2 *ℤ w.least) *ℤ pos (high_pull a v.greatest) -ℤ highest a v.greatest 1) (pos (high_pull a v.greatest))

-- and at the most, rounded up
abbrev pub greatest_altitude : Demand → Interval → Interval → Interval → ℤ
greatest_altitude a h v w =
    up ((h.greatest +ℤ pos 2 *ℤ w.greatest) *ℤ pos (low_pull a v.least) -ℤ lowest a v.least 1) (pos (low_pull a v.least))

-- the least own rate: a pilot below the advisory's rates goes up, and one at or above them stays above their lower end
abbrev pub least_rate : Demand → Interval → ℤ
least_rate a v = if int_lt v.least a.lo then v.least else int_max a.lo (v.least -ℤ pos a.limit)

-- the greatest own rate
abbrev pub greatest_rate : Demand → Interval → ℤ
greatest_rate a v = if int_lt a.hi v.greatest then v.greatest else int_min a.hi (v.greatest +ℤ pos a.limit)

-- the area that is reached from these altitudes, own rates and intruder rates; the intruder keeps its rate
abbrev pub reached_from : Demand → Interval → Interval → Interval → Area
reached_from a h v w = record {
  altitude = record { least = least_altitude a h v w; greatest = greatest_altitude a h v w };
  own = record { least = least_rate a v; greatest = greatest_rate a v };
  intruder = w;
}

-- that of a cell whose lower corner has the places i, j, k
abbrev pub reached_area : ModelData → ℕ → ℕ → ℕ → Area
reached_area m i j k = reached_from (demand_of m 0) (from_place m.grid.h i) (from_place m.grid.v0 j) (from_place m.grid.v1 k)

-- its altitudes are within the limits of altitudes
pub record IsWithinAltitudes (area : Area) : Type 0 where
  pub least : unsigned_abs area.altitude.least ≤ TICKS_PER_FOOT * unsigned_abs GREATEST_ALTITUDE
  pub greatest : unsigned_abs area.altitude.greatest ≤ TICKS_PER_FOOT * unsigned_abs GREATEST_ALTITUDE
