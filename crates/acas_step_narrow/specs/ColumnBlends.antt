-- The raised numbers of a column, one of each side for each place of the altitudes.
use Rattle.std.specs.Prelude.{◌≡◌, ℕ, ◌+◌, ◌*◌, ◌<◌, List, length}
use Rattle.acas_spec.specs.Model.{GridData, ModelData}
use Rattle.acas_grid.specs.States.{vertex_at}
use Rattle.acas_units.specs.declared.pair.Pair.{Pair}
use Rattle.acas_means.specs.Columns.{vertex_in}
use Rattle.acas_step.specs.Ends.{column_of}
use Rattle.acas_step_narrow.specs.Narrow.{AreRaisedSums, weights_below}
use Rattle.acas_step_narrow.specs.Raised.{AreAllRaisedWithin, along_v0, raised_at, raised_in, width}
use Rattle.acas_step.specs.declared.cell.Cell.{Cell}
use Rattle.acas_means.specs.declared.layer.Side.TheVariants.{Upper, Lower}

-- at each place of the altitudes, the values of a layer blended on both rates of a cell, raised, where those of an advisory begin at `first`
pub record AreBlends (g : GridData) (t : Cell) (first by : ℕ) (below : List Pair) (uppers lowers : List ℕ) : Type 0 where
  pub upper : (i : ℕ) → i < length g.h → (raised_in uppers lowers i).upper
      ≡ along_v0 t (length g.v1) (raised_at by Upper below) (first + vertex_in g (column_of g t) i)
  pub lower : (i : ℕ) → i < length g.h → (raised_in uppers lowers i).lower
      ≡ along_v0 t (length g.v1) (raised_at by Lower below) (first + vertex_in g (column_of g t) i)

-- no blend is more than values up to so much give, raised
abbrev pub AreBlendsWithin : GridData → Cell → ℕ → List ℕ → List ℕ → Type 0
AreBlendsWithin g t by uppers lowers =
    AreAllRaisedWithin (2 * by * width t.v1 * width t.v0) (length g.h) uppers lowers

-- no sum over the first q points is more than values up to so much give, raised
abbrev pub AreSumsWithin : ModelData → ℕ → ℕ → List ℕ → List ℕ → Type 0
AreSumsWithin m by q uppers lowers = AreAllRaisedWithin (2 * by * weights_below m q) (length m.grid.h) uppers lowers

-- at the vertices of a column, the sums of both sides over the first q points, raised
pub record AreColumnSums (m : ModelData) (below : List Pair) (by column a q : ℕ) (uppers lowers : List ℕ) : Type 0 where
  pub each : (i : ℕ) → i < length m.grid.h
      → AreRaisedSums m below by (vertex_at m.grid (vertex_in m.grid column i)) a q (raised_in uppers lowers i)
