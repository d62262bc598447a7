-- What the inner functions say of a second of flight: no number is larger, up or down, than the limits of a model allow.
use Rattle.std.specs.Prelude.{ℕ, ◌+◌, ◌*◌, ◌≤◌, ℤ, pos, ◌+ℤ◌, unsigned_abs}
use Rattle.acas_spec.specs.Model.{ModelData, advisory_at, sigma_at}
use Rattle.acas_process.specs.Step.{after_second, command, vertex_point}
use Rattle.acas_units.specs.declared.limits.TheConstants.{GREATEST_ALTITUDE, GREATEST_RATE, GREATEST_NOISE, GREATEST_LIMIT}
use Rattle.acas_units.specs.declared.ticks.TheConstants.{TICKS_PER_FOOT}
use Rattle.acas_spec.specs.declared.place.Point.{Point}
use Rattle.acas_spec.specs.declared.place.Vertex.{Vertex}

-- an altitude of an axis, in ticks
abbrev pub IsAltitude : ℤ → Type 0
IsAltitude z = unsigned_abs z ≤ TICKS_PER_FOOT * unsigned_abs GREATEST_ALTITUDE

-- a rate of an axis or of an advisory
abbrev pub IsRate : ℤ → Type 0
IsRate z = unsigned_abs z ≤ unsigned_abs GREATEST_RATE

-- a change of a rate by a sigma point
abbrev pub IsNoise : ℤ → Type 0
IsNoise z = unsigned_abs z ≤ unsigned_abs GREATEST_NOISE

-- an acceleration by which a pilot follows an advisory
abbrev pub IsPull : ℤ → Type 0
IsPull z = unsigned_abs z ≤ GREATEST_LIMIT

-- the difference of two rates
abbrev pub IsRateChange : ℤ → Type 0
IsRateChange z = unsigned_abs z ≤ 2 * unsigned_abs GREATEST_RATE

-- a change of the own rate within a second, by the pilot and by a sigma point
abbrev pub IsOwnChange : ℤ → Type 0
IsOwnChange z = unsigned_abs z ≤ 2 * unsigned_abs GREATEST_RATE + unsigned_abs GREATEST_NOISE

-- an altitude and two rates of the axes
pub record IsAxisPoint (s : Point) : Type 0 where
  pub h : IsAltitude s.h
  pub v0 : IsRate s.v0
  pub v1 : IsRate s.v1

-- where the sigma point of number q takes the vertex x within a second under the advisory of number a, be that beside the grid
abbrev pub led_past : ModelData → Vertex → ℕ → ℕ → Point
led_past m x a q =
    let s = vertex_point m.grid x in
    let own = command (advisory_at m a).lo (advisory_at m a).hi (pos m.pull) s.v0 in
    after_second s (own +ℤ (sigma_at m q).own) (sigma_at m q).intruder
