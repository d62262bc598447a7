-- The value of a choice by the values of the layer below, in millionths of a unit.
use Rattle.std.specs.Prelude.{ℕ, ℤ, pos, ◌+ℤ◌, ◌*ℤ◌}
use Rattle.acas_spec.specs.Model.{ModelData, total_weight}
use Rattle.acas_spec.specs.declared.place.Point.{Point}
use Rattle.acas_spec.specs.declared.place.Vertex.{Vertex}
use Rattle.acas_process.specs.Step.{moved, grid_product, share, over_vertices, over_sigmas, sigma_weight}
use Rattle.acas_spec.specs.Table.{Values}
use Rattle.acas_process.specs.Cost.{cost_of}

-- a cost in units, in millionths
abbrev pub millionths : ℤ → ℤ
millionths cost = pos 1_000_000 *ℤ cost

-- the values of the layer below under the advisory a, interpolated at the point s and rounded
abbrev pub interpolated : (ℤ → ℤ → ℤ) → ModelData → Values → ℕ → Point → ℤ
interpolated round m below a s =
    round (over_vertices m.grid (λ y. pos (share m.grid s y) *ℤ below a y)) (pos (grid_product m.grid))

-- the mean of that over the points to which the sigma points move the vertex x, by their weights, rounded
abbrev pub mean_value : (ℤ → ℤ → ℤ) → ModelData → Values → Vertex → ℕ → ℤ
mean_value round m below x a =
    round (over_sigmas m (λ q. pos (sigma_weight m q) *ℤ interpolated round m below a (moved m x a q))) (pos (total_weight m))

-- the value of choosing the advisory a at the vertex x where p is present: that mean and the cost of the second
abbrev pub choice_value : (ℤ → ℤ → ℤ) → ModelData → Values → ℕ → Vertex → ℕ → ℤ
choice_value round m below p x a = mean_value round m below x a +ℤ millionths (cost_of m p a)
