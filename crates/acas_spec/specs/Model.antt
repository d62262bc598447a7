-- A model of two aircraft, as its file says it. Altitudes are in ticks, rates in ft/min, accelerations in ft/min
-- per second, ranges in ft, closing speeds in ft/s, times in seconds, costs in units.
use Rattle.std.specs.Prelude.{ℕ, ◌*◌, ◌+◌, ℤ, pos, unsigned_abs, List, [], length, get_or, sum_by}
use Rattle.acas_spec.specs.declared.parts.Advisory.{Advisory}
use Rattle.acas_spec.specs.declared.parts.Choice.{Choice}
use Rattle.acas_spec.specs.declared.parts.SigmaPoint.{SigmaPoint}

-- the axes of relative altitude, own rate and intruder rate; how many advisories there are; how many seconds a
-- table goes back
pub record GridData : Type 0 where
  pub h : List ℤ
  pub v0 : List ℤ
  pub v1 : List ℤ
  pub advisories : ℕ
  pub horizon : ℕ

pub record ModelData : Type 0 where
  pub grid : GridData
  -- the advisories by number; the first is clear of conflict
  pub advisories : List Advisory
  -- what may be chosen under each present advisory
  pub choices : List (List Choice)
  pub sigmas : List SigmaPoint
  -- the least and the greatest acceleration of a pilot who follows an advisory
  pub pull : ℕ
  pub limit : ℕ
  -- how long the pilot may hold the rate before following
  pub delay : ℕ
  -- the puck: its radius in ft and half of its height in ticks
  pub radius : ℕ
  pub half : ℕ
  -- the least and the greatest closing speed
  pub least_closing : ℕ
  pub greatest_closing : ℕ
  -- the cost of contact at the end
  pub contact : ℤ

-- how many vertices the grid has
abbrev pub vertices : GridData → ℕ
vertices g = length g.h * length g.v0 * length g.v1

-- a state is a present advisory at a vertex
abbrev pub states : GridData → ℕ
states g = g.advisories * vertices g

-- a table has an entry for each state in each of its layers, 0 to the horizon
abbrev pub entries : GridData → ℕ
entries g = (g.horizon + 1) * states g

-- the advisory of a number
abbrev pub advisory_at : ModelData → ℕ → Advisory
advisory_at m a = get_or m.advisories a (record { name = []; lo = pos 0; hi = pos 0 })

-- what may be chosen under a present advisory
abbrev pub choices_at : ModelData → ℕ → List Choice
choices_at m p = get_or m.choices p []

-- the sigma point of a number
abbrev pub sigma_at : ModelData → ℕ → SigmaPoint
sigma_at m q = get_or m.sigmas q (record { weight = pos 0; own = pos 0; intruder = pos 0 })

-- the weight of a sigma point, which in a model within its limits is above 0
abbrev pub weight_of : SigmaPoint → ℕ
weight_of p = unsigned_abs p.weight

-- the sum of all sigma weights
abbrev pub total_weight : ModelData → ℕ
total_weight m = sum_by weight_of m.sigmas
