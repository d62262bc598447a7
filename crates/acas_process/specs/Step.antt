-- One second of flight, and the vertices round the point that it leads to. Altitudes are in ticks of 1/120 ft, rates in ft/min.
use Rattle.std.specs.Prelude.{ℕ, ◌*◌, ℤ, pos, neg_ℤ, ◌+ℤ◌, ◌-ℤ◌, ◌*ℤ◌, length, if◌then◌else◌, int_lt}
use Rattle.std.specs.Int.{int_min}
use Rattle.acas_spec.specs.Axis.{place_value}
use Rattle.acas_spec.specs.Model.{GridData, ModelData, advisory_at, sigma_at, weight_of}
use Rattle.acas_grid.specs.Grid.{clamp_point}
use Rattle.acas_spec.specs.declared.place.Point.{Point}
use Rattle.acas_spec.specs.declared.place.Vertex.{Vertex}
use Rattle.acas_process.specs.Sums.{sum_below}
use Rattle.acas_process.specs.Axis.{gap_product, tent}

-- the relative altitude and the two rates at a vertex
abbrev pub vertex_point : GridData → Vertex → Point
vertex_point g y = record { h = place_value g.h y.i; v0 = place_value g.v0 y.j; v1 = place_value g.v1 y.k }

-- how much the pilot changes the own rate v within a second, by at most the pull, where an advisory asks for a rate from lo to hi
abbrev pub command : ℤ → ℤ → ℤ → ℤ → ℤ
command lo hi pull v =
    if int_lt v lo then int_min pull (lo -ℤ v)
    else if int_lt hi v then neg_ℤ (int_min pull (v -ℤ hi)) else pos 0

-- one second of flight in which the own rate and the intruder's rate change evenly by so much
abbrev pub after_second : Point → ℤ → ℤ → Point
after_second s own intruder =
    record { h = s.h +ℤ pos 2 *ℤ (s.v1 -ℤ s.v0) +ℤ intruder -ℤ own; v0 = s.v0 +ℤ own; v1 = s.v1 +ℤ intruder }

-- where the sigma point of number q takes the vertex x within a second under the advisory of number a
abbrev pub moved : ModelData → Vertex → ℕ → ℕ → Point
moved m x a q =
    let s = vertex_point m.grid x in
    let own = command (advisory_at m a).lo (advisory_at m a).hi (pos m.pull) s.v0 in
    clamp_point m.grid (after_second s (own +ℤ (sigma_at m q).own) (sigma_at m q).intruder)

-- the product of all gaps of the three axes
abbrev pub grid_product : GridData → ℕ
grid_product g = gap_product g.h * gap_product g.v0 * gap_product g.v1

-- the share of the vertex y at the point s: its interpolation weight times the product of all gaps
abbrev pub share : GridData → Point → Vertex → ℕ
share g s y = tent g.h y.i s.h * tent g.v0 y.j s.v0 * tent g.v1 y.k s.v1

-- the sum over all vertices of the grid
abbrev pub over_vertices : GridData → (Vertex → ℤ) → ℤ
over_vertices g f =
    sum_below (length g.h) (λ i. sum_below (length g.v0) (λ j. sum_below (length g.v1) (λ k. f (record { i = i; j = j; k = k }))))

-- the sum over the numbers of all sigma points
abbrev pub over_sigmas : ModelData → (ℕ → ℤ) → ℤ
over_sigmas m f = sum_below (length m.sigmas) f

-- the weight of a sigma point by its number
abbrev pub sigma_weight : ModelData → ℕ → ℕ
sigma_weight m q = weight_of (sigma_at m q)
