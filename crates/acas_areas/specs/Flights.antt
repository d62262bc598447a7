-- The flights of the search, in whole numbers over a denominator q: times, pulls and holds are over q, rates over q^2. Altitudes
-- are in ticks.
use Rattle.std.specs.Prelude.{ℕ, ◌*◌, ℤ, pos, ◌+ℤ◌, ◌-ℤ◌, ◌*ℤ◌}
use Rattle.acas_frac.specs.Fraction.{Fraction}
use Rattle.acas_flight.specs.Curves.{held}

-- How long the flight lasts, how far the intruder is above at its start, the own and the intruder's rate then, and what the pilot
-- does: holds the own rate for the hold, then goes to the aim with the pull.
pub record Flight : Type 0 where
  pub time : ℕ
  pub altitude : ℤ
  pub own : ℤ
  pub intruder : ℤ
  pub aim : ℤ
  pub pull : ℕ
  pub hold : ℕ

abbrev pub flight : ℕ → ℤ → ℤ → ℤ → ℤ → ℕ → ℕ → Flight
flight t h v w k b g = record { time = t; altitude = h; own = v; intruder = w; aim = k; pull = b; hold = g }

-- where the intruder ends, over q^3
abbrev pub intruder_end : ℕ → Flight → ℤ
intruder_end q c = (c.altitude *ℤ pos (q * q * q)) +ℤ ((pos 2 *ℤ c.intruder) *ℤ pos c.time)

-- the climb less where the intruder ends, in ticks
abbrev pub value : ℕ → Flight → Fraction
value q c = record { num = held c.own c.aim c.pull c.hold c.time -ℤ (pos c.pull *ℤ intruder_end q c); den = q * q * q * c.pull }
