-- Areas of altitudes and rates, whether flights from them come within the half height during a window, and when an area is clear.
use Rattle.std.specs.Prelude.{ℕ, ◌*◌, ◌<◌, ◌⊎◌, List, ℤ, pos, ◌-ℤ◌, ◌*ℤ◌, neg_ℤ, ◌<ℤ◌}
use Rattle.acas_spec.specs.Model.{ModelData}
use Rattle.acas_flight.specs.Response.{Segment, Demand, scaled, climb, lasting, Meets}
use Rattle.acas_flight.specs.State.{Interval, IsInside, from_place, Box}
use Rattle.acas_flight.specs.Contact.{vertical_separation, IsVerticalContact}
use Rattle.acas_flight.specs.Window.{Times, IsDuring}
use Rattle.acas_flight.specs.Curves.{lowest, highest, low_pull, high_pull}

-- an area: relative altitudes in ticks, own rates and intruder rates in ft/min
pub record Area : Type 0 where
  pub altitude : Interval
  pub own : Interval
  pub intruder : Interval

-- the area of a cell whose lower corner has the places i, j, k
abbrev pub area_of_cell : ModelData → ℕ → ℕ → ℕ → Area
area_of_cell m i j k = record { altitude = from_place m.grid.h i; own = from_place m.grid.v0 j; intruder = from_place m.grid.v1 k }

-- the area of a box
abbrev pub area_of_box : Box → Area
area_of_box box = record { altitude = box.altitude; own = box.own; intruder = box.intruder }

-- from the altitude h and the rates v and x, over q, of the area, the response meets the advisory, lasts one of the times and ends
-- within the half height
pub record EndsInVerticalContact (half : ℕ) (a : Demand) (area : Area) (w : Times) (q : ℕ) (h v x : ℤ) (response : List Segment) : Type 0 where
  pub some : 0 < q
  pub altitude : IsInside q area.altitude h
  pub own : IsInside q area.own v
  pub intruder : IsInside q area.intruder x
  pub time : IsDuring q w (lasting response)
  pub meets : Meets (scaled q a) (v *ℤ pos q) response
  pub contact : IsVerticalContact half q h x (lasting response) (climb (v *ℤ pos q) response)

-- the area is endangered during a window: some flight from it that meets the advisory ends within the half height at one of the times
abbrev pub IsEndangeredDuring : ℕ → Demand → Area → Times → Type 0
IsEndangeredDuring half a area w =
    (q : ℕ) × (h : ℤ) × (v : ℤ) × (x : ℤ) × (response : List Segment) × EndsInVerticalContact half a area w q h v x response

-- ---- clear areas

-- the pull, over q, of the lowest flight from the area
abbrev pub low_pull_of : ℕ → Demand → Area → ℕ
low_pull_of q a area = low_pull (scaled q a) (area.own.least *ℤ pos (q * q))

-- the pull, over q, of the highest flight
abbrev pub high_pull_of : ℕ → Demand → Area → ℕ
high_pull_of q a area = high_pull (scaled q a) (area.own.greatest *ℤ pos (q * q))

-- how far the lowest flight from the area is above its highest intruder at the time t, times the pull, over q^4
abbrev pub least_gap : ℕ → Demand → Area → ℕ → ℤ
least_gap q a area t =
    lowest (scaled q a) (area.own.least *ℤ pos (q * q)) t
    -ℤ (pos (low_pull_of q a area) *ℤ vertical_separation q (area.altitude.greatest *ℤ pos q) (area.intruder.greatest *ℤ pos q) t (pos 0))

-- how far the highest flight is above the lowest intruder
abbrev pub greatest_gap : ℕ → Demand → Area → ℕ → ℤ
greatest_gap q a area t =
    highest (scaled q a) (area.own.greatest *ℤ pos (q * q)) t
    -ℤ (pos (high_pull_of q a area) *ℤ vertical_separation q (area.altitude.least *ℤ pos q) (area.intruder.least *ℤ pos q) t (pos 0))

-- the lowest flight is more than the half height above the highest intruder at every time
abbrev pub IsClearAbove : ℕ → Demand → Area → Times → Type 0
IsClearAbove half a area w = (q t : ℕ) → 0 < q → IsDuring q w t → (pos (low_pull_of q a area) *ℤ pos (half * (q * q * q))) <ℤ least_gap q a area t

-- the highest flight is more than the half height below the lowest intruder at every time
abbrev pub IsClearBelow : ℕ → Demand → Area → Times → Type 0
IsClearBelow half a area w = (q t : ℕ) → 0 < q → IsDuring q w t → greatest_gap q a area t <ℤ (pos (high_pull_of q a area) *ℤ neg_ℤ (pos (half * (q * q * q))))

-- the area is clear at these times
abbrev pub IsClear : ℕ → Demand → Area → Times → Type 0
IsClear half a area w = IsClearAbove half a area w ⊎ IsClearBelow half a area w
