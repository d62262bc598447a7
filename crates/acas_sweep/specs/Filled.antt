-- A plane that is written vertex by vertex in the order of turns, and at a vertex present advisory by present advisory.
use Rattle.std.specs.Prelude.{◌≡◌, ℕ, ◌+◌, ◌*◌, ◌<◌, ◌≤◌, ◌⊎◌, List, Option, length, map, unwrap_or}
use Rattle.acas_spec.specs.Model.{GridData, states, vertices}
use Rattle.acas_grid.specs.Grid.{state_number}
use Rattle.acas_units.specs.declared.pair.Pair.{Pair}
use Rattle.acas_plane.specs.Plane.{IsFree, Plane, missing_in}
use Rattle.acas_means.specs.Layer.{no_pair}
use Rattle.acas_sweep.specs.Turns.{turn}

-- the pairs that were written, and where none was, the pair that a list holds where it ends
abbrev pub pairs_in : List (Option Pair) → List Pair
pairs_in places = map (λ place. unwrap_or place no_pair) places

-- the turn t under the present advisory q comes after the turn c, or is that turn, after its first p present advisories
abbrev pub IsAhead : ℕ → ℕ → ℕ → ℕ → Type 0
IsAhead c p t q = (c < t) ⊎ ((t ≡ c) × (p ≤ q))

-- a plane of a grid's states is written up to there, and nothing ahead of it
pub record IsFilledTo (g : GridData) (c p : ℕ) (plane : Plane) : Type 0 where
  pub state_count : plane.states ≡ states g
  pub place_count : length plane.work ≡ states g
  pub missing : missing_in plane.work + (c * g.advisories + p) ≡ states g
  pub free : (w q : ℕ) → w < vertices g → q < g.advisories → IsAhead c p (turn g w) q → IsFree plane.work (state_number g q w)
