-- What a sweep takes of memory.
use Rattle.std.specs.Prelude.{◌≡◌, length}
use Rattle.acas_spec.specs.Model.{ModelData, states}
use Rattle.acas_plane.specs.Plane.{fresh}
use Rattle.acas_sweep.specs.declared.room.SweepRoom.{SweepRoom}

-- the block has the model's states and nothing in it yet, and there is an advice for each state
pub record IsRoomFor (m : ModelData) (room : SweepRoom) : Type 0 where
  pub block : room.block ≡ fresh (states m.grid)
  pub advice : length room.advice.items ≡ states m.grid
