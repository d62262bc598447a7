-- Values raised by a number so that none is below 0, and their sums over a cell in 64 bits.
use Rattle.std.specs.Prelude.{◌≡◌, ℕ, ◌+◌, ◌*◌, ◌^◌, ◌<◌, ◌≤◌, ℤ, pos, ◌+ℤ◌, ◌*ℤ◌, unsigned_abs, List, get_or}
use Rattle.acas_units.specs.declared.pair.Pair.{Pair}
use Rattle.acas_means.specs.Layer.{value_at}
use Rattle.acas_step.specs.declared.cell.Cell.{Cell}
use Rattle.acas_step.specs.declared.cell.Ends.{Ends}
use Rattle.acas_means.specs.declared.layer.Side.{Side}
use Rattle.acas_step_narrow.specs.declared.raised.Raised.{Raised}
use Rattle.acas_step_narrow.specs.declared.raised.RateWeights.{RateWeights}

-- a value that is raised by a number, where it is no further below 0 than that
abbrev pub raised : ℕ → ℤ → ℕ
raised by z = unsigned_abs (z +ℤ pos by)

-- the raised value of one side at a place
abbrev pub raised_at : ℕ → Side → List Pair → ℕ → ℕ
raised_at by side pairs place = raised by (value_at side pairs place)

-- the gap between the two ends of a cell on an axis
abbrev pub width : Ends → ℕ
width e = e.lower + e.upper

-- two numbers at the ends of a cell on an axis, by their weights
abbrev pub blended : Ends → ℕ → ℕ → ℕ
blended e near far = near * e.lower + far * e.upper

-- numbers by place, blended on the intruder rate, then on the own rate, then on the altitude, from the place n of a corner on
abbrev pub along_v1 : Cell → (ℕ → ℕ) → ℕ → ℕ
along_v1 t f n = blended t.v1 (f n) (f (n + 1))

abbrev pub along_v0 : Cell → ℕ → (ℕ → ℕ) → ℕ → ℕ
along_v0 t row f n = blended t.v0 (along_v1 t f n) (along_v1 t f (n + row))

abbrev pub along_h : Cell → ℕ → ℕ → (ℕ → ℕ) → ℕ → ℕ
along_h t row plane f n = blended t.h (along_v0 t row f n) (along_v0 t row f (n + plane))

-- two values at the ends of a cell on an axis, by their weights
abbrev pub mixed : Ends → ℤ → ℤ → ℤ
mixed e near far = pos e.lower *ℤ near +ℤ pos e.upper *ℤ far

-- blends over a cell of numbers up to so much have 64 bits
pub record HasRoom (most : ℕ) (t : Cell) : Type 0 where
  pub values : most < 2 ^ 63
  pub v1 : most * width t.v1 < 2 ^ 63
  pub v0 : most * width t.v1 * width t.v0 < 2 ^ 63
  pub h : most * width t.v1 * width t.v0 * width t.h < 2 ^ 63

-- the weights of the corners of a cell on both rates, and by how much their sums of values up to so much are raised
pub record AreRateWeights (t : Cell) (by : ℕ) (w : RateWeights) : Type 0 where
  pub here : w.here ≡ pos (t.v0.lower * t.v1.lower)
  pub next : w.next ≡ pos (t.v0.lower * t.v1.upper)
  pub row : w.row ≡ pos (t.v0.upper * t.v1.lower)
  pub both : w.both ≡ pos (t.v0.upper * t.v1.upper)
  pub most : w.most ≡ by * width t.v1 * width t.v0
  pub room : 2 * w.most < 2 ^ 63

-- four values by the weights of the corners
abbrev pub weighted_sum : RateWeights → ℤ → ℤ → ℤ → ℤ → ℤ
weighted_sum w here next row both = w.here *ℤ here +ℤ w.next *ℤ next +ℤ w.row *ℤ row +ℤ w.both *ℤ both

-- values no further from 0 than so much, whose sums by the weights of a cell have 64 bits
pub record AreSummed (w : RateWeights) (by : ℕ) (here next row both : ℤ) : Type 0 where
  pub cell : Cell
  pub weights : AreRateWeights cell by w
  pub one : unsigned_abs here ≤ by
  pub two : unsigned_abs next ≤ by
  pub three : unsigned_abs row ≤ by
  pub four : unsigned_abs both ≤ by

-- neither number is more than so much
pub record AreRaisedWithin (most : ℕ) (p : Raised) : Type 0 where
  pub upper : p.upper ≤ most
  pub lower : p.lower ≤ most

-- both numbers, times a weight, have 64 bits
pub record HaveRoom (weight : ℕ) (p : Raised) : Type 0 where
  pub upper : p.upper * weight < 2 ^ 63
  pub lower : p.lower * weight < 2 ^ 63

-- the numbers at a place of a column, whose upper and lower numbers are listed apart
abbrev pub raised_in : List ℕ → List ℕ → ℕ → Raised
raised_in uppers lowers i = record { upper = get_or uppers i 0; lower = get_or lowers i 0 }

-- no number of the first places of a column is more than so much
pub record AreAllRaisedWithin (most count : ℕ) (uppers lowers : List ℕ) : Type 0 where
  pub each : (i : ℕ) → i < count → AreRaisedWithin most (raised_in uppers lowers i)
