-- The least lower values that a check has found.
use Rattle.std.specs.Prelude.{◌≡◌, ℕ, ◌<◌, ◌^◌, List, length, IfSome, IsTrue}
use Rattle.acas_spec.specs.Model.{ModelData, vertices}
use Rattle.acas_units.specs.declared.pair.Pair.{Pair}
use Rattle.acas_means.specs.Layer.{AreWithin}
use Rattle.acas_means.specs.declared.layer.Side.{Side}
use Rattle.acas_means.specs.declared.layer.Side.TheVariants.{Upper}
use Rattle.acas_bounds.specs.Leasts.{AreLeasts}
use Rattle.acas_accept.specs.declared.leasts.Leasts.{Leasts}

-- they are those of the choices of a present advisory
pub record AreLeastsOf (m : ModelData) (means : List Pair) (l : Leasts) (p : ℕ) : Type 0 where
  pub present : p < m.grid.advisories
  pub values : AreLeasts m means p l.values.items

-- there is a value for each vertex, and they are those of the choices of the advisory that they are said to be of; and the means are
-- near to 0 where that is said
pub record HaveLeasts (m : ModelData) (means : List Pair) (l : Leasts) : Type 0 where
  pub count : length l.values.items ≡ vertices m.grid
  pub found : IfSome l.of (AreLeastsOf m means l)
  pub near : IsTrue l.are_near → (side : Side) → AreWithin (2 ^ 62) side means

-- with n seconds to go there is a layer below, its upper means are near to 0, and the values are those where p is present
pub record AreFound (m : ModelData) (n p : ℕ) (means : List Pair) (l : Leasts) : Type 0 where
  pub some : 0 < n
  pub near : AreWithin (2 ^ 62) Upper means
  pub values : AreLeasts m means p l.values.items
