-- Policies for small models, without memory and with it.
use Rattle.std.specs.Prelude.{ℤ, Bool, false, ◌&&◌, ◌||◌, List, [], ◌∷◌, nat_eq, if◌then◌else◌}
use Rattle.acas_spec.specs.Table.{Policy}
use Rattle.acas_spec.specs.declared.place.Vertex.{Vertex}
use Rattle.acas_trajectories.specs.Memory.{GridState, MemoryPolicy, without_memory}
use Rattle.acas_trajectories.specs.Trajectories.{trajectory_weight}
use Rattle.acas_examples.specs.Models.{noisy}
use Rattle.acas_examples.specs.Parts.{vertex}

-- clear is chosen in every second
abbrev pub always_clear : Policy
always_clear n p x = 0

-- one of these states is at the lower altitude
abbrev pub was_low : List GridState → Bool
was_low [] = false
was_low (s ∷ rest) = nat_eq s.vertex.i 0 || was_low rest

-- level is chosen in the last second, where clear is present and an earlier state is at the lower altitude; otherwise clear is
abbrev pub level_after_low : MemoryPolicy
level_after_low earlier n p x = if nat_eq p 0 && (nat_eq n 1 && was_low earlier) then 1 else 0

-- the weight in the noisy model of two seconds from the bottom, the intruder climbing, that end at these vertices
abbrev pub noisy_weight : Vertex → Vertex → ℤ
noisy_weight y z = trajectory_weight noisy (without_memory always_clear) 0 (vertex 0 0 1) (y ∷ z ∷ [])
