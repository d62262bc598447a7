-- How a block of two planes lies in one row of places.
use Rattle.std.specs.Prelude.{◌≡◌, ◌*◌, ◌≤◌, ◌⊎◌, Bool, List, [], ◌∷◌, Option, Some, None, length, map, take, drop, is_some, if◌then◌else◌}
use Rattle.circular_buffer.specs.Places.{somes}
use Rattle.acas_units.specs.declared.pair.Pair.{Pair}
use Rattle.acas_plane.specs.Plane.{Plane, missing_in}
use Rattle.acas_plane.specs.declared.block.PlaneBlock.TheInside.{Inside}

-- the places whose mark is set, as they stand, and the others as if nothing stood there: one for each mark
abbrev pub masked : {X : Type 0} → List Bool → List (Option X) → List (Option X)
masked [] places = []
masked (mark ∷ marks) [] = None ∷ masked marks []
masked (mark ∷ marks) (place ∷ places) = (if mark then place else None) ∷ masked marks places

-- the places of the finished plane
abbrev pub finished_places : Inside → List (Option Pair)
finished_places block = take block.count (drop block.finished_from block.places.slots)

-- the places that are being written, where a mark says so
abbrev pub work_places : Inside → List (Option Pair)
work_places block = masked block.marks.items (drop block.work_from block.places.slots)

-- the block as a value
abbrev pub plane_of : Inside → Plane
plane_of block = record {
  states = block.states;
  finished = somes (finished_places block);
  work = work_places block;
}

-- the fields say one block
pub record IsPlane (block : Inside) : Type 0 where
  -- the right is that of this memory
  pub allocator : block.right.alloc ≡ block.alloc
  pub address : block.right.at ≡ block.places.at
  pub count_given : block.right.len ≡ 2 * block.states
  -- there are two places and a mark for each state
  pub size : length block.places.slots ≡ 2 * block.states
  pub marks : length block.marks.items ≡ block.states
  pub few : block.states ≤ 4_000_000
  -- one plane is the lower half, the other the upper
  pub halves : ((block.work_from ≡ 0) × (block.finished_from ≡ block.states))
      ⊎ ((block.work_from ≡ block.states) × (block.finished_from ≡ 0))
  -- a place of the finished plane holds a pair, and so does one with a mark
  pub within : block.count ≤ block.states
  pub full : finished_places block ≡ map Some (somes (finished_places block))
  pub marked : map is_some (work_places block) ≡ block.marks.items
  pub missing : block.missing ≡ missing_in (work_places block)
