-- A search by halving between a point that is below and one that is not.
use Rattle.std.specs.Prelude.{◌≡◌, ℕ, ◌+◌, ◌/◌, ◌<◌, ◌≤◌, Bool, true, false}

-- Between the points low and high, of which the first is below and the second is not, the halving ends at the last point. While
-- more than a step is between them, the point in the middle, rounded down, takes the place of the one that is as it is.
pub data HalvesTo (below : ℕ → Bool) : ℕ → ℕ → ℕ → Type 0 where
  ends : (low high : ℕ) → high ≤ low + 1 → HalvesTo below low high high
  raises : (low high at : ℕ) → low + 1 < high → below ((low + high) / 2) ≡ true → HalvesTo below ((low + high) / 2) high at → HalvesTo below low high at
  lowers : (low high at : ℕ) → low + 1 < high → below ((low + high) / 2) ≡ false → HalvesTo below low ((low + high) / 2) at → HalvesTo below low high at
