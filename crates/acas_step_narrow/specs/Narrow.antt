-- Both sides of a layer at a point and their sums over points, raised so that none is below 0.
use Rattle.std.specs.Prelude.{◌≡◌, ℕ, ◌*◌, ◌+◌, ℤ, pos, ◌+ℤ◌, ◌*ℤ◌, List, take, sum_by}
use Rattle.acas_spec.specs.Model.{GridData, ModelData, weight_of}
use Rattle.acas_spec.specs.Table.{Values}
use Rattle.acas_spec.specs.declared.place.Point.{Point}
use Rattle.acas_spec.specs.declared.place.Vertex.{Vertex}
use Rattle.acas_frac.specs.Rounding.{down, up}
use Rattle.acas_grid.specs.Grid.{vertex_number}
use Rattle.acas_process.specs.Values.{interpolated}
use Rattle.acas_process.specs.Step.{moved, sigma_weight}
use Rattle.acas_process.specs.Sums.{sum_below}
use Rattle.acas_units.specs.declared.pair.Pair.{Pair}
use Rattle.acas_step.specs.Ends.{over_ends}
use Rattle.acas_means.specs.Layer.{layer_values, value_at}
use Rattle.acas_step_narrow.specs.Raised.{AreRaisedWithin}
use Rattle.acas_step.specs.declared.cell.Cell.{Cell}
use Rattle.acas_means.specs.declared.layer.Side.{Side}
use Rattle.acas_means.specs.declared.layer.Side.TheVariants.{Upper, Lower}
use Rattle.acas_step_narrow.specs.declared.raised.Raised.{Raised}

-- the sum of a side's values at the corners of a cell by their weights, where the states of an advisory begin at `first`
abbrev pub sum_over : GridData → Cell → ℕ → Side → List Pair → ℤ
sum_over g t first side below =
    over_ends t (λ i j k. value_at side below (first + vertex_number g (record { i = i; j = j; k = k })))

-- both sides of a layer at a point, interpolated under the advisory a, rounded and raised
pub record IsRaisedPoint (m : ModelData) (below : List Pair) (by a : ℕ) (s : Point) (p : Raised) : Type 0 where
  pub upper : pos p.upper ≡ interpolated up m (layer_values Upper m.grid below) a s +ℤ pos by
  pub lower : pos p.lower ≡ interpolated down m (layer_values Lower m.grid below) a s +ℤ pos by
  pub within : AreRaisedWithin (2 * by) p

-- the values at the first q points to which a second leads from the vertex x under the advisory a, by their weights
abbrev pub point_sum : (ℤ → ℤ → ℤ) → ModelData → Values → Vertex → ℕ → ℕ → ℤ
point_sum round m below x a q = sum_below q (λ q. pos (sigma_weight m q) *ℤ interpolated round m below a (moved m x a q))

-- the weights of the first q points
abbrev pub weights_below : ModelData → ℕ → ℕ
weights_below m q = sum_by weight_of (take q m.sigmas)

-- the sums of both sides over the first q points, raised
pub record AreRaisedSums (m : ModelData) (below : List Pair) (by : ℕ) (x : Vertex) (a q : ℕ) (p : Raised) : Type 0 where
  pub upper : pos p.upper ≡ point_sum up m (layer_values Upper m.grid below) x a q +ℤ pos (by * weights_below m q)
  pub lower : pos p.lower ≡ point_sum down m (layer_values Lower m.grid below) x a q +ℤ pos (by * weights_below m q)
  pub within : AreRaisedWithin (2 * by * weights_below m q) p
