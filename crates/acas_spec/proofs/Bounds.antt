-- How far from 0 numbers within limits are.
use Rattle.std.proofs.Common.{ℕ, ◌<◌, ◌≤◌, ℤ, unsigned_abs, List, length, arith}
use Rattle.std.proofs.lemmas.Int.{ints}
use Rattle.acas_spec.specs.Axis.{IsBetween, IsWithin, place_value}

-- a number between limits is no further from 0 than the further of them
pub unsigned_abs-between : (most : ℕ) (least greatest z : ℤ) → IsBetween least greatest z → unsigned_abs least ≤ most → unsigned_abs greatest ≤ most → unsigned_abs z ≤ most
unsigned_abs-between most least greatest z between low high = omega (arith, ints)

-- so is each number of a list
pub unsigned_abs-within : (most : ℕ) (least greatest : ℤ) (axis : List ℤ) (place : ℕ) → IsWithin least greatest axis → place < length axis
    → unsigned_abs least ≤ most → unsigned_abs greatest ≤ most → unsigned_abs (place_value axis place) ≤ most
unsigned_abs-within most least greatest axis place within inside low high =
    unsigned_abs-between most least greatest (place_value axis place) (within.bounded place inside) low high
