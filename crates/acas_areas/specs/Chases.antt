-- What an advisory asks and a border of an area, within the limits, and when the curve stays over the intruder.
use Rattle.std.specs.Prelude.{◌≡◌, ℕ, ◌*◌, ◌<◌, ◌≤◌, ℤ, pos, ◌*ℤ◌, ◌<ℤ◌, ◌≤ℤ◌, unsigned_abs}
use Rattle.acas_units.specs.declared.limits.TheConstants.{GREATEST_RATE, GREATEST_LIMIT, GREATEST_DELAY}
use Rattle.acas_flight.specs.Response.{Demand}
use Rattle.acas_flight.specs.Window.{Times, IsDuring}
use Rattle.acas_flight.specs.Border.{Border, border_gap}
use Rattle.acas_areas.specs.Sizes.{altitude_size}

abbrev pub demand_from : ℤ → ℤ → ℕ → ℕ → ℕ → Demand
demand_from lo hi pull limit delay = record { lo = lo; hi = hi; pull = pull; limit = limit; delay = delay }

-- the numbers that an advisory asks in a model
pub record IsAsked (a : Demand) : Type 0 where
  pub lo : unsigned_abs a.lo ≤ unsigned_abs GREATEST_RATE
  pub hi : unsigned_abs a.hi ≤ unsigned_abs GREATEST_RATE
  pub ordered : a.lo ≤ℤ a.hi
  pub some : 0 < a.pull
  pub pull : a.pull ≤ a.limit
  pub limit : a.limit ≤ GREATEST_LIMIT
  pub delay : a.delay ≤ GREATEST_DELAY

-- the numbers of a border; a curve that does not rise begins at once
pub record IsChase (s : Border) : Type 0 where
  pub start : unsigned_abs s.start ≤ unsigned_abs GREATEST_RATE
  pub aim : unsigned_abs s.aim ≤ unsigned_abs GREATEST_RATE
  pub some : 0 < s.pull
  pub pull : s.pull ≤ GREATEST_LIMIT
  pub hold : s.hold ≤ GREATEST_DELAY
  pub height : unsigned_abs s.height ≤ altitude_size
  pub rate : unsigned_abs s.rate ≤ unsigned_abs GREATEST_RATE
  pub at_once : s.aim ≤ℤ s.start → s.hold ≡ 0

-- the curve is more than the half height over the intruder at each of the times
abbrev pub StaysOver : ℕ → Border → Times → Type 0
StaysOver half s w = (q t : ℕ) → 0 < q → IsDuring q w t → (pos (s.pull * q) *ℤ pos (half * (q * q * q))) <ℤ border_gap s q t
