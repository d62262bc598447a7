-- The earliest times at which the gap of an area between the lowest flight and the highest intruder is least, and that between the
-- highest flight and the lowest intruder greatest, and the gaps at a time.
use Rattle.std.specs.Prelude.{◌≡◌, ℕ, ◌*◌, ◌<◌, ℤ, pos, neg_ℤ, ◌*ℤ◌, ◌≤ℤ◌, ◌<ℤ◌}
use Rattle.acas_frac.specs.Fraction.{Fraction, IsReduced}
use Rattle.acas_flight.specs.Response.{Demand}
use Rattle.acas_flight.specs.Window.{Times, IsDuring}
use Rattle.acas_flight.specs.Clear.{Area, low_pull_of, high_pull_of, least_gap, greatest_gap}
use Rattle.acas_flight.specs.Values.{IsAtMost, IsOver}

-- the time is the earliest of the window's at which a gap is least; the gap is given at each number of q-th parts of a second
pub record IsFirstLeast (gap : ℕ → ℕ → ℤ) (w : Times) (time : Fraction) : Type 0 where
  pub after : IsAtMost w.from time
  pub before : IsAtMost time w.to
  pub least : (q s t : ℕ) → 0 < q → IsOver q (pos s) time → IsDuring q w t → gap q s ≤ℤ gap q t
  pub earliest : (q s t : ℕ) → 0 < q → IsOver q (pos s) time → IsDuring q w t → t < s → gap q s <ℤ gap q t

-- the time is that, and in lowest terms
pub record IsExtreme (gap : ℕ → ℕ → ℤ) (w : Times) (time : Fraction) : Type 0 where
  pub reduced : IsReduced time
  pub ahead : pos 0 ≤ℤ time.num
  pub first : IsFirstLeast gap w time

-- the time at which the gap between the lowest flight and the highest intruder is least
abbrev pub IsLowExtreme : Demand → Area → Times → Fraction → Type 0
IsLowExtreme a area w time = IsExtreme (λ q t. least_gap q a area t) w time

-- the time at which the gap between the highest flight and the lowest intruder is greatest: its negative is least
abbrev pub IsHighExtreme : Demand → Area → Times → Fraction → Type 0
IsHighExtreme a area w time = IsExtreme (λ q t. neg_ℤ (greatest_gap q a area t)) w time

-- y is the gap between the lowest flight and the highest intruder at the time
pub record IsLowGapAt (a : Demand) (area : Area) (time y : Fraction) : Type 0 where
  pub over : (q t : ℕ) → 0 < q → IsOver q (pos t) time → y.num *ℤ pos (q * q * q * low_pull_of q a area) ≡ least_gap q a area t *ℤ pos y.den

-- y is the gap between the highest flight and the lowest intruder at the time
pub record IsHighGapAt (a : Demand) (area : Area) (time y : Fraction) : Type 0 where
  pub over : (q t : ℕ) → 0 < q → IsOver q (pos t) time → y.num *ℤ pos (q * q * q * high_pull_of q a area) ≡ greatest_gap q a area t *ℤ pos y.den
