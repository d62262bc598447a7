-- What is found of a layer before its means are formed, and which advisories lead to the same means at a vertex.
use Rattle.std.specs.Prelude.{◌≡◌, ℕ, ◌+◌, ◌*◌, ◌^◌, ◌<◌, ℤ, pos, List, get_or}
use Rattle.acas_spec.specs.Model.{GridData, ModelData, advisory_at, vertices}
use Rattle.acas_spec.specs.declared.place.Vertex.{Vertex}
use Rattle.acas_grid.specs.Grid.{state_number}
use Rattle.acas_units.specs.declared.pair.Pair.{Pair}
use Rattle.acas_process.specs.Step.{command, vertex_point}
use Rattle.acas_means.specs.Layer.{AreWithin, pair_at}
use Rattle.acas_means.specs.declared.layer.Side.TheVariants.{Upper, Lower}
use Rattle.acas_means.specs.declared.reach.Reach.{Reach}

-- a layer has the same pairs under the advisories a and b
pub record AreAlike (g : GridData) (below : List Pair) (a b : ℕ) : Type 0 where
  pub each : (v : ℕ) → v < vertices g → pair_at below (state_number g a v) ≡ pair_at below (state_number g b v)

-- for each advisory by its number, a layer has the same pairs under the advisory of the list
pub record AreLikes (g : GridData) (below : List Pair) (likes : List ℕ) : Type 0 where
  pub each : (a : ℕ) → a < g.advisories → AreAlike g below a (get_or likes a 0)

-- no value of a layer is larger than its reach says, raised values have 64 bits where the whole weight is at most the widest, and
-- each advisory has an advisory under which the pairs are the same
pub record IsReach (g : GridData) (below : List Pair) (r : Reach) : Type 0 where
  pub upper : AreWithin r.size Upper below
  pub lower : AreWithin r.size Lower below
  pub room : r.widest * (2 * r.size + 1) < 2 ^ 63
  pub likes : AreLikes g below r.likes

-- the own rate at a vertex
abbrev pub own_rate : GridData → Vertex → ℤ
own_rate g x = (vertex_point g x).v0

-- how much the pilot changes the own rate v within a second under the advisory a
abbrev pub change_from : ModelData → ℤ → ℕ → ℤ
change_from m v a = command (advisory_at m a).lo (advisory_at m a).hi (pos m.pull) v

-- for each advisory by its number, that change
pub record AreChanges (m : ModelData) (v : ℤ) (changes : List ℤ) : Type 0 where
  pub each : (a : ℕ) → a < m.grid.advisories → get_or changes a (pos 0) ≡ change_from m v a
