-- A grid whose three axes have different lengths.
use Rattle.std.specs.Prelude.{ℕ, pos, [], ◌∷◌}
use Rattle.acas_spec.specs.Model.{GridData}
use Rattle.acas_spec.specs.declared.place.Vertex.{Vertex}

-- four altitudes, three own rates and two intruder rates, for two advisories and one second
abbrev pub four_by_three_by_two : GridData
four_by_three_by_two = record {
  h = pos 0 ∷ pos 120 ∷ pos 240 ∷ pos 360 ∷ [];
  v0 = pos 0 ∷ pos 10 ∷ pos 20 ∷ [];
  v1 = pos 0 ∷ pos 10 ∷ [];
  advisories = 2;
  horizon = 1;
}

-- the vertex of these places
abbrev pub vertex : ℕ → ℕ → ℕ → Vertex
vertex i j k = record { i = i; j = j; k = k }
