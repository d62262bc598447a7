-- The response of a flight of the search, segment by segment.
use Rattle.std.specs.Prelude.{◌≡◌, ℕ, ◌-◌, ◌*◌, ◌<◌, ◌≤◌, min, List, [], ◌∷◌, ◌++◌, ℤ, pos, neg_ℤ, ◌+ℤ◌, ◌-ℤ◌, ◌*ℤ◌, ◌≤ℤ◌, unsigned_abs, int_le, if◌then◌else◌}
use Rattle.acas_flight.specs.Response.{Segment, Demand, scaled, lasting, Meets}
use Rattle.acas_flight.specs.State.{IsInside}
use Rattle.acas_flight.specs.Window.{Times, IsDuring}
use Rattle.acas_flight.specs.Clear.{Area}
use Rattle.acas_areas.specs.Flights.{Flight}

abbrev pub segment : ℕ → ℤ → Segment
segment t c = record { duration = t; acceleration = c }

-- the rate is held for the time t: by no segment where that is 0
pub data IsHoldFor : ℕ → List Segment → Type 0 where
  not_held : IsHoldFor 0 []
  held_for : (t : ℕ) → 0 < t → IsHoldFor t (segment t (pos 0) ∷ [])

-- For the time t the rate goes with the acceleration c to an aim that is reached after the time `bend`, and then stays.
pub data IsApproachFor (bend : ℕ) (c : ℤ) : ℕ → List Segment → Type 0 where
  at_once : IsApproachFor bend c 0 []
  at_aim : (t : ℕ) → 0 < t → bend ≡ 0 → IsApproachFor bend c t (segment t (pos 0) ∷ [])
  before : (t : ℕ) → 0 < t → 0 < bend → t ≤ bend → IsApproachFor bend c t (segment t c ∷ [])
  past : (t : ℕ) → 0 < bend → bend < t → IsApproachFor bend c t (segment bend c ∷ segment (t - bend) (pos 0) ∷ [])

-- from the rate v the aim k is reached after the time `bend` with the acceleration b upward or downward
pub data IsToward (v k : ℤ) (b bend : ℕ) : ℤ → Type 0 where
  up : v ≡ k -ℤ pos (b * bend) → IsToward v k b bend (pos b)
  down : v ≡ k +ℤ pos (b * bend) → IsToward v k b bend (neg_ℤ (pos b))

-- ---- the response of a flight, over q*q*pull: of that the bend, the way from the rate to the aim over the pull, is whole

abbrev pub scale : ℕ → Flight → ℕ
scale q c = q * c.pull

abbrev pub fine : ℕ → Flight → ℕ
fine q c = q * scale q c

-- the pull, with the sign of the way
abbrev pub acceleration : ℕ → Flight → ℤ
acceleration q c = if int_le c.own c.aim then pos (c.pull * scale q c) else neg_ℤ (pos (c.pull * scale q c))

-- the response of the flight: the hold, and the approach in what is left of the time
pub record IsResponse (q : ℕ) (c : Flight) (hold rest : List Segment) : Type 0 where
  pub held : IsHoldFor (min c.time c.hold * scale q c) hold
  pub approached : IsApproachFor (unsigned_abs (c.aim -ℤ c.own) * q) (acceleration q c) ((c.time - c.hold) * scale q c) rest

-- a flight from the area that lasts a time of the window, and goes to an aim with a pull after a hold that the demand allows
pub record IsFlightFrom (a : Demand) (area : Area) (w : Times) (q : ℕ) (c : Flight) : Type 0 where
  pub time : IsDuring q w c.time
  pub not_under : area.altitude.least ≤ℤ c.altitude
  pub not_over : c.altitude ≤ℤ area.altitude.greatest
  pub own : IsInside (q * q) area.own c.own
  pub intruder : IsInside (q * q) area.intruder c.intruder
  pub aim_least : (a.lo *ℤ pos (q * q)) ≤ℤ c.aim
  pub aim_greatest : c.aim ≤ℤ (a.hi *ℤ pos (q * q))
  pub pull_least : a.pull * q ≤ c.pull
  pub pull_most : c.pull ≤ a.limit * q
  pub hold : c.hold ≤ a.delay * q

-- each response of the flight meets the demand and lasts the flight's time
pub record RespondsTo (a : Demand) (q : ℕ) (c : Flight) : Type 0 where
  pub meets : (hold rest : List Segment) → IsResponse q c hold rest → Meets (scaled (fine q c) a) ((c.own *ℤ pos c.pull) *ℤ pos (fine q c)) (hold ++ rest)
  pub lasts : (hold rest : List Segment) → IsResponse q c hold rest → lasting (hold ++ rest) ≡ c.time * scale q c
