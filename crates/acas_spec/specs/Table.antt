-- A table of upper and lower values in millionths of a unit, and the policy that it advises, as plain records.
use Rattle.std.specs.Prelude.{ℕ, ℤ}
use Rattle.acas_spec.specs.declared.place.Vertex.{Vertex}

-- a policy says which advisory follows, for each number of seconds to go, present advisory and vertex
abbrev pub Policy : Type 0
Policy = ℕ → ℕ → Vertex → ℕ

-- a value for each present advisory and vertex
abbrev pub Values : Type 0
Values = ℕ → Vertex → ℤ

-- a table has two values and an advice for each number of seconds to go, present advisory and vertex
pub record Table : Type 0 where
  pub upper : ℕ → Values
  pub lower : ℕ → Values
  pub advice : Policy
