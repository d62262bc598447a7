-- What holds of every model within its limits: the limits of its numbers and what ties them.
use Rattle.std.specs.Prelude.{◌≡◌, ◌≢◌, ℕ, ◌+◌, ◌*◌, ◌<◌, ◌≤◌, nat_le, pos, ◌*ℤ◌, ◌≤ℤ◌, Bool, ◌&&◌, ◌||◌, ◌==◌, IsTrue, List, [], length, map, get_or}
use Rattle.std.specs.List.{list_all}
use Rattle.acas_units.specs.declared.limits.TheConstants.{
  LEAST_NAME_BYTES,
  GREATEST_NAME_BYTES,
  LEAST_ALTITUDE,
  GREATEST_ALTITUDE,
  LEAST_RATE,
  GREATEST_RATE,
  LEAST_COST,
  GREATEST_COST,
  LEAST_WEIGHT,
  GREATEST_WEIGHT,
  GREATEST_TOTAL_WEIGHT,
  LEAST_NOISE,
  GREATEST_NOISE,
  LEAST_SIGMAS,
  GREATEST_SIGMAS,
  LEAST_ADVISORIES,
  GREATEST_ADVISORIES,
  LEAST_HORIZON,
  GREATEST_HORIZON,
  GREATEST_ENTRIES,
  LEAST_PULL,
  GREATEST_LIMIT,
  GREATEST_DELAY,
  LEAST_RADIUS,
  GREATEST_RADIUS,
  LEAST_HALF_HEIGHT,
  GREATEST_HALF_HEIGHT,
  LEAST_CLOSING,
  GREATEST_CLOSING,
  WINDOW_SECONDS,
}
use Rattle.acas_units.specs.declared.ticks.TheConstants.{TICKS_PER_FOOT}
use Rattle.acas_spec.specs.Axis.{IsAxis, IsBetween, IsWithin}
use Rattle.acas_spec.specs.Model.{GridData, ModelData, entries, advisory_at, choices_at, sigma_at, total_weight}
use Rattle.acas_spec.specs.declared.parts.Advisory.{Advisory}
use Rattle.acas_spec.specs.declared.parts.Choice.{Choice}
use Rattle.acas_spec.specs.declared.parts.SigmaPoint.{SigmaPoint}

-- a number from one to another, both included
abbrev pub is_from : ℕ → ℕ → ℕ → Bool
is_from least greatest n = nat_le least n && nat_le n greatest

-- an ASCII letter or digit, `_` or `-`
abbrev pub is_name_byte : ℕ → Bool
is_name_byte b = ((is_from 65 90 b || is_from 97 122 b) || is_from 48 57 b) || (b == 95 || b == 45)

-- a name has from the least to the greatest number of such bytes
abbrev pub is_name : List ℕ → Bool
is_name bytes = is_from LEAST_NAME_BYTES GREATEST_NAME_BYTES (length bytes) && list_all is_name_byte bytes

-- no two places of a list hold the same
pub record AreDistinct {A : Type 0} (d : A) (xs : List A) : Type 0 where
  pub apart : (i j : ℕ) → i < j → j < length xs → get_or xs i d ≢ get_or xs j d

-- an advisory has a name, and its interval goes from a rate to one that is not below it
pub record IsAdvisory (a : Advisory) : Type 0 where
  pub name : IsTrue (is_name a.name)
  pub low : LEAST_RATE ≤ℤ a.lo
  pub rising : a.lo ≤ℤ a.hi
  pub high : a.hi ≤ℤ GREATEST_RATE

-- a choice is one of so many advisories, at a cost
pub record IsChoice (count : ℕ) (c : Choice) : Type 0 where
  pub advisory : c.advisory < count
  pub cost : IsBetween LEAST_COST GREATEST_COST c.cost

-- something may be chosen, and no advisory twice
pub record IsChoiceList (count : ℕ) (choices : List Choice) : Type 0 where
  pub some : 0 < length choices
  pub each : (place : ℕ) → place < length choices
      → IsChoice count (get_or choices place (record { advisory = 0; cost = pos 0 }))
  pub distinct : AreDistinct 0 (map (λ c. c.advisory) choices)

-- a sigma point has a weight, and changes each rate
pub record IsSigma (p : SigmaPoint) : Type 0 where
  pub weight : IsBetween LEAST_WEIGHT GREATEST_WEIGHT p.weight
  pub own : IsBetween LEAST_NOISE GREATEST_NOISE p.own
  pub intruder : IsBetween LEAST_NOISE GREATEST_NOISE p.intruder

-- a grid of a model within its limits, with its altitudes in ticks
pub record IsGrid (g : GridData) : Type 0 where
  pub altitudes : IsAxis g.h
  pub own_rates : IsAxis g.v0
  pub intruder_rates : IsAxis g.v1
  pub altitudes_within : IsWithin (pos TICKS_PER_FOOT *ℤ LEAST_ALTITUDE) (pos TICKS_PER_FOOT *ℤ GREATEST_ALTITUDE) g.h
  pub own_within : IsWithin LEAST_RATE GREATEST_RATE g.v0
  pub intruder_within : IsWithin LEAST_RATE GREATEST_RATE g.v1
  pub some_advisories : LEAST_ADVISORIES ≤ g.advisories
  pub few_advisories : g.advisories ≤ GREATEST_ADVISORIES
  pub least_horizon : LEAST_HORIZON ≤ g.horizon
  pub horizon : g.horizon ≤ GREATEST_HORIZON
  pub entries : entries g ≤ GREATEST_ENTRIES

-- a model within its limits
pub record IsModel (m : ModelData) : Type 0 where
  pub grid : IsGrid m.grid
  pub advisory_count : length m.advisories ≡ m.grid.advisories
  pub advisories : (a : ℕ) → a < m.grid.advisories → IsAdvisory (advisory_at m a)
  pub names : AreDistinct [] (map (λ a. a.name) m.advisories)
  pub choice_count : length m.choices ≡ m.grid.advisories
  pub choices : (p : ℕ) → p < m.grid.advisories → IsChoiceList m.grid.advisories (choices_at m p)
  pub some_sigmas : LEAST_SIGMAS ≤ length m.sigmas
  pub few_sigmas : length m.sigmas ≤ GREATEST_SIGMAS
  pub sigmas : (q : ℕ) → q < length m.sigmas → IsSigma (sigma_at m q)
  pub weights : total_weight m ≤ GREATEST_TOTAL_WEIGHT
  pub some_pull : LEAST_PULL ≤ m.pull
  pub pull_within : m.pull ≤ m.limit
  pub limit : m.limit ≤ GREATEST_LIMIT
  pub delay : m.delay ≤ GREATEST_DELAY
  pub some_radius : LEAST_RADIUS ≤ m.radius
  pub radius : m.radius ≤ GREATEST_RADIUS
  pub some_half : TICKS_PER_FOOT * LEAST_HALF_HEIGHT ≤ m.half
  pub half : m.half ≤ TICKS_PER_FOOT * GREATEST_HALF_HEIGHT
  pub some_closing : LEAST_CLOSING ≤ m.least_closing
  pub closing : m.least_closing ≤ m.greatest_closing
  pub greatest_closing : m.greatest_closing ≤ GREATEST_CLOSING
  pub contact : IsBetween LEAST_COST GREATEST_COST m.contact
  pub window : m.grid.horizon * m.least_closing + 2 * m.radius ≤ WINDOW_SECONDS * m.least_closing
