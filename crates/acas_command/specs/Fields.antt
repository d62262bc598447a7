-- The fields of a line of values, and those of a state.
use Rattle.std.specs.Prelude.{ℕ, ℤ, pos, int_div, List, [], ◌∷◌, ◌++◌}
use Rattle.std.specs.Fmt.{signed_decimal}
use Rattle.acas_units.specs.declared.ticks.TheConstants.{TICKS_PER_FOOT}
use Rattle.acas_spec.specs.Axis.{place_value}
use Rattle.acas_spec.specs.Model.{ModelData, advisory_at}
use Rattle.acas_spec.specs.declared.place.Vertex.{Vertex}

-- ticks in whole feet
abbrev pub feet : ℤ → ℤ
feet ticks = int_div ticks (pos TICKS_PER_FOOT)

-- a field and the space behind it
unfoldable pub field : List ℕ → List ℕ
field text = text ++ 32 ∷ []

-- the fields of a state: present advisory, altitude in feet, own rate and intruder rate
unfoldable pub state_fields : ModelData → ℕ → Vertex → List ℕ
state_fields m p x =
    field (advisory_at m p).name
    ++ field (signed_decimal (feet (place_value m.grid.h x.i)))
    ++ field (signed_decimal (place_value m.grid.v0 x.j))
    ++ field (signed_decimal (place_value m.grid.v1 x.k))
