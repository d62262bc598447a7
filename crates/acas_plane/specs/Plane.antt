-- A block of two planes as a value: the pairs that are finished, and those that are being written.
use Rattle.std.specs.Prelude.{◌≡◌, ℕ, ◌+◌, List, [], ◌∷◌, Option, Some, None, replicate, slice_get, slice_set}
use Rattle.acas_units.specs.declared.pair.Pair.{Pair}

-- so many states, the pairs of the plane that is finished, and for each state the pair of the other plane, or that none was written
pub record Plane : Type 0 where
  pub states : ℕ
  pub finished : List Pair
  pub work : List (Option Pair)

-- a block in which nothing stands yet
abbrev pub fresh : ℕ → Plane
fresh n = record { states = n; finished = []; work = replicate n None }

-- the same block with a pair written at a place
abbrev pub with_pair : Plane → ℕ → Pair → Plane
with_pair p place pair = record {
  states = p.states;
  finished = p.finished;
  work = slice_set p.work place (Some pair);
}

module _ {X : Type 0} where
  -- how many places were not written
  abbrev pub missing_in : List (Option X) → ℕ
  missing_in [] = 0
  missing_in (None ∷ places) = missing_in places + 1
  missing_in (Some x ∷ places) = missing_in places

  -- there is such a place, and it was not written
  abbrev pub IsFree : List (Option X) → ℕ → Type 0
  IsFree places i = slice_get places i ≡ Some None

  -- there is such a place, and it was written
  abbrev pub IsWritten : List (Option X) → ℕ → Type 0
  IsWritten places i = (x : X) × (slice_get places i ≡ Some (Some x))
