-- What the advisories of a model within its limits ask can be met, in numbers over every denominator.
use Rattle.std.proofs.Common.{ℕ, ◌*◌, ◌<◌, arith, mul-pos, mul-le-mul_right}
use Rattle.acas_spec.specs.Limits.{IsModel}
use Rattle.acas_spec.specs.Model.{ModelData}
use Rattle.acas_flight_lemmas.proofs.Rising.{scaled_le}
use Rattle.acas_flight.specs.Response.{Demand, demand_of, scaled}
use Rattle.acas_flight.specs.Parts.{CanBeMet}

pub demand_can_be_met : (m : ModelData) (a : ℕ) → IsModel m → a < m.grid.advisories → CanBeMet (demand_of m a)
demand_can_be_met m a f h = record { ordered = (f.advisories a h).rising; some_pull = omega (arith, f.some_pull); pull_within = f.pull_within }

pub scaled_can_be_met : (q : ℕ) (a : Demand) → 0 < q → CanBeMet a → CanBeMet (scaled q a)
scaled_can_be_met q a p f = record {
  ordered = scaled_le a.lo a.hi (q * q) f.ordered;
  some_pull = mul-pos f.some_pull p;
  pull_within = mul-le-mul_right q f.pull_within;
}
