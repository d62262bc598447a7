-- The range and the closing speed of a witness.
use Rattle.std.specs.Prelude.{◌≡◌, ℕ, ◌+◌, ◌*◌, ◌<◌, min, ℤ, pos, ◌-ℤ◌, ◌*ℤ◌, ◌≤ℤ◌, ◌<ℤ◌, unsigned_abs}
use Rattle.std.specs.Int.{int_max, int_min}
use Rattle.acas_units.specs.declared.span.Span.{Span}
use Rattle.acas_spec.specs.Model.{ModelData}
use Rattle.acas_frac.specs.Fraction.{Fraction, whole_of}
use Rattle.acas_flight.specs.State.{Interval, IsInside, IsSecondsAway}
use Rattle.acas_flight.specs.Contact.{IsHorizontalContact}
use Rattle.acas_flight.specs.Window.{IsContactTimeOfBox, IsContactTimeOfCell}
use Rattle.acas_flight.specs.Values.{IsOver}
use Rattle.acas_areas.specs.Limits.{interval_of}

-- the range of a cell's witness at the time t, over q: the radius, and what the least closing speed flies in the lesser of t and
-- n + 1 seconds
abbrev pub cell_range : ModelData → ℕ → ℕ → ℕ → ℕ
cell_range m n q t = m.radius * q + m.least_closing * min t ((n + 1) * q)

-- the range and the speed of a cell's witness at the time: the speed is the least
pub record IsCellsRange (m : ModelData) (n : ℕ) (time range speed : Fraction) : Type 0 where
  pub slowest : speed ≡ whole_of (pos m.least_closing)
  pub over : (q t : ℕ) → 0 < q → IsOver q (pos t) time → IsOver q (pos (cell_range m n q t)) range

-- over each q they are those of a cell of n seconds, and in horizontal contact at the time
pub record IsContactOfCell (m : ModelData) (n : ℕ) (time range speed : Fraction) : Type 0 where
  pub away : (q t : ℕ) (r s : ℤ) → 0 < q → IsOver q (pos t) time → IsOver q r range → IsOver q s speed → IsSecondsAway m n q r s
  pub contact : (q t : ℕ) (r s : ℤ) → 0 < q → IsOver q (pos t) time → IsOver q r range → IsOver q s speed → IsHorizontalContact m.radius q r s t

-- the numbers from a to b
abbrev pub interval_from : ℕ → ℕ → Interval
interval_from a b = record { least = pos a; greatest = pos b }

-- the number of an interval, over q, that is nearest to a distance flown
abbrev pub nearest_range : ℕ → Interval → ℤ → ℤ
nearest_range q ranges flown = int_max (ranges.least *ℤ pos q) (int_min (ranges.greatest *ℤ pos q) flown)

-- The range and the speed of a box's witness at the time: the least closing speed if it flies what of the least range is outside
-- the radius, with the range nearest to what it flies; and otherwise the speed that does fly it, with the least range.
pub record IsBoxesRange (radius : ℕ) (ranges speeds : Interval) (time range speed : Fraction) : Type 0 where
  pub slowest : (q t : ℕ) → 0 < q → IsOver q (pos t) time → ((ranges.least -ℤ pos radius) *ℤ pos q) ≤ℤ (speeds.least *ℤ pos t) →
      (speed ≡ whole_of speeds.least) × IsOver q (nearest_range q ranges (speeds.least *ℤ pos t)) range
  pub faster : (q t : ℕ) → 0 < q → IsOver q (pos t) time → (speeds.least *ℤ pos t) <ℤ ((ranges.least -ℤ pos radius) *ℤ pos q) →
      (speed.num *ℤ pos t ≡ ((ranges.least -ℤ pos radius) *ℤ pos q) *ℤ pos speed.den) × (range ≡ whole_of ranges.least)

-- over each q they are within the ranges and speeds of a box, and in horizontal contact at the time
pub record IsContactOfBox (radius : ℕ) (ranges speeds : Interval) (time range speed : Fraction) : Type 0 where
  pub range_in : (q : ℕ) (r : ℤ) → 0 < q → IsOver q r range → IsInside q ranges r
  pub speed_in : (q : ℕ) (s : ℤ) → 0 < q → IsOver q s speed → IsInside q speeds s
  pub contact : (q t : ℕ) (r s : ℤ) → 0 < q → IsOver q (pos t) time → IsOver q r range → IsOver q s speed → IsHorizontalContact radius q r s t

-- ---- the same of the spans of a box

abbrev pub IsRangeOf : ModelData → Span → Span → Fraction → Fraction → Fraction → Type 0
IsRangeOf m range closing time r s = IsBoxesRange m.radius (interval_of range) (interval_of closing) time r s

abbrev pub IsContactOf : ModelData → Span → Span → Fraction → Fraction → Fraction → Type 0
IsContactOf m range closing time r s = IsContactOfBox m.radius (interval_of range) (interval_of closing) time r s

-- ---- times

-- some range and closing speed of a cell of n seconds are in horizontal contact at the time
abbrev pub IsTimeOfCell : ModelData → ℕ → Fraction → Type 0
IsTimeOfCell m n time = IsContactTimeOfCell m n time.den (unsigned_abs time.num)

-- some range and closing speed of a box are
abbrev pub IsTimeOfBox : ℕ → Interval → Interval → Fraction → Type 0
IsTimeOfBox radius ranges speeds time = IsContactTimeOfBox radius ranges speeds time.den (unsigned_abs time.num)

-- the fraction is n/d, for a d above 0
pub record IsQuotient (n d : ℕ) (f : Fraction) : Type 0 where
  pub value : f.num *ℤ pos d ≡ pos n *ℤ pos f.den
  pub some : 0 < f.den
