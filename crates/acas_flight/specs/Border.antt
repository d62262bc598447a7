-- A curve against an intruder that flies at a steady rate: a border of an area.
use Rattle.std.specs.Prelude.{◌≡◌, ℕ, ◌*◌, ◌<◌, ◌⊎◌, ℤ, pos, neg_ℤ, ◌+ℤ◌, ◌-ℤ◌, ◌*ℤ◌, ◌≤ℤ◌, ◌<ℤ◌}
use Rattle.acas_frac.specs.Fraction.{Fraction}
use Rattle.acas_flight.specs.Response.{Demand}
use Rattle.acas_flight.specs.Contact.{vertical_separation}
use Rattle.acas_flight.specs.Curves.{held, low_pull, low_hold, high_pull, high_hold}
use Rattle.acas_flight.specs.Window.{Times, IsDuring}
use Rattle.acas_flight.specs.Clear.{Area}
use Rattle.acas_flight.specs.Values.{IsAtMost, IsOver}

-- The curve goes from the start rate to the aim with the pull after the hold. The intruder starts at the height and flies at the
-- rate.
pub record Border : Type 0 where
  pub start : ℤ
  pub aim : ℤ
  pub pull : ℕ
  pub hold : ℕ
  pub height : ℤ
  pub rate : ℤ

-- the border of these six numbers
abbrev pub border_of : ℤ → ℤ → ℕ → ℕ → ℤ → ℤ → Border
border_of v k b g h w = record { start = v; aim = k; pull = b; hold = g; height = h; rate = w }

-- the low curve of an area against its highest intruder
abbrev pub low_border_of : Demand → Area → Border
low_border_of a area = border_of area.own.least a.lo (low_pull a area.own.least) (low_hold a area.own.least) area.altitude.greatest area.intruder.greatest

-- the high curve of an area against its lowest intruder, turned upside down
abbrev pub high_border_of : Demand → Area → Border
high_border_of a area = border_of (neg_ℤ area.own.greatest) (neg_ℤ a.hi) (high_pull a area.own.greatest) (high_hold a area.own.greatest) (neg_ℤ area.altitude.least) (neg_ℤ area.intruder.least)

-- the climb less the intruder's altitude at the time t over q, times the pull, over q^4
abbrev pub border_gap : Border → ℕ → ℕ → ℤ
border_gap s q t = held (s.start *ℤ pos (q * q)) (s.aim *ℤ pos (q * q)) (s.pull * q) (s.hold * q) t -ℤ (pos (s.pull * q) *ℤ vertical_separation q (s.height *ℤ pos q) (s.rate *ℤ pos q) t (pos 0))

-- the same at the time n/d from whole numbers, over d*d
abbrev pub gap_number : Border → ℕ → ℕ → ℤ
gap_number s d n = held (s.start *ℤ pos d) (s.aim *ℤ pos d) s.pull (s.hold * d) n -ℤ (((s.height *ℤ pos d) +ℤ ((pos 2 *ℤ s.rate) *ℤ pos n)) *ℤ pos (d * s.pull))

-- y is the gap at the time
pub record IsGapAt (s : Border) (time y : Fraction) : Type 0 where
  pub over : (q t : ℕ) → 0 < q → IsOver q (pos t) time → y.num *ℤ pos (q * q * q * (s.pull * q)) ≡ border_gap s q t *ℤ pos y.den

-- y is the least gap at the times, and it is reached first at the time
pub record IsLeastGap (s : Border) (w : Times) (time y : Fraction) : Type 0 where
  pub after : IsAtMost w.from time
  pub before : IsAtMost time w.to
  pub value : IsGapAt s time y
  pub least : (q t : ℕ) → 0 < q → IsDuring q w t → (y.num *ℤ pos (q * q * q * (s.pull * q))) ≤ℤ (border_gap s q t *ℤ pos y.den)
  pub earliest : (q t : ℕ) → 0 < q → IsDuring q w t → pos (t * time.den) <ℤ (time.num *ℤ pos q) → (y.num *ℤ pos (q * q * q * (s.pull * q))) <ℤ (border_gap s q t *ℤ pos y.den)

-- ---- where a rising curve is nearest the intruder

-- the intruder's rate is one of those on the way
pub record IsOnTheWay (s : Border) : Type 0 where
  pub over : s.start <ℤ s.rate
  pub within : s.rate ≤ℤ s.aim

-- the pull times the time at which the curve's rate is the intruder's
abbrev pub turn : Border → ℤ
turn s = pos (s.hold * s.pull) +ℤ (s.rate -ℤ s.start)

-- at the time the curve is at least as fast as the intruder
abbrev pub IsLate : Border → Fraction → Type 0
IsLate s time = (s.rate ≤ℤ s.start) ⊎ (IsOnTheWay s × ((turn s *ℤ pos time.den) ≤ℤ (pos s.pull *ℤ time.num)))

-- until the time it is slower
abbrev pub IsSoon : Border → Fraction → Type 0
IsSoon s time = (s.aim <ℤ s.rate) ⊎ (IsOnTheWay s × ((pos s.pull *ℤ time.num) ≤ℤ (turn s *ℤ pos time.den)))

-- at the time a rising curve is nearest the intruder: before it the curve is the slower one, and after it the intruder
pub record IsNearestTime (s : Border) (w : Times) (time : Fraction) : Type 0 where
  pub after : IsAtMost w.from time
  pub before : IsAtMost time w.to
  pub late : IsLate s time ⊎ IsAtMost w.to time
  pub soon : IsSoon s time ⊎ IsAtMost time w.from
