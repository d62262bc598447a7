-- A curve against an intruder that goes to a rate of its own.
use Rattle.std.specs.Prelude.{ℕ, ◌*◌, ℤ, pos, neg_ℤ, ◌+ℤ◌, ◌-ℤ◌, ◌*ℤ◌}
use Rattle.acas_flight.specs.Response.{Demand}
use Rattle.acas_flight.specs.Curves.{approach, held, low_pull, low_hold, high_pull, high_hold}
use Rattle.acas_flight.specs.Clear.{Area}
use Rattle.acas_rulings.specs.Intruder.{Manoeuvre}

-- The curve goes from the start rate to the aim with the pull after the hold. The intruder starts at the height and the rate, and goes
-- to its goal with the acceleration.
pub record Race : Type 0 where
  pub start : ℤ
  pub aim : ℤ
  pub pull : ℕ
  pub hold : ℕ
  pub height : ℤ
  pub rate : ℤ
  pub goal : ℤ
  pub accel : ℕ

-- the race of these eight numbers
abbrev pub race_of : ℤ → ℤ → ℕ → ℕ → ℤ → ℤ → ℤ → ℕ → Race
race_of start aim pull hold height rate goal accel =
    record { start = start; aim = aim; pull = pull; hold = hold; height = height; rate = rate; goal = goal; accel = accel }

-- the low curve of an area against its highest intruder
abbrev pub low_race : Demand → Manoeuvre → Area → Race
low_race a may area =
    race_of area.own.least a.lo (low_pull a area.own.least) (low_hold a area.own.least)
    area.altitude.greatest area.intruder.greatest (pos may.rate) may.accel

-- the high curve of an area against its lowest intruder
abbrev pub high_race : Demand → Manoeuvre → Area → Race
high_race a may area =
    race_of area.own.greatest a.hi (high_pull a area.own.greatest) (high_hold a area.own.greatest)
    area.altitude.least area.intruder.least (neg_ℤ (pos may.rate)) may.accel

-- the same race upside down
abbrev pub turned : Race → Race
turned r = record {
  start = neg_ℤ r.start;
  aim = neg_ℤ r.aim;
  pull = r.pull;
  hold = r.hold;
  height = neg_ℤ r.height;
  rate = neg_ℤ r.rate;
  goal = neg_ℤ r.goal;
  accel = r.accel;
}

-- the own climb in the time t over q, times the pull, over q^4
abbrev pub own_climb : Race → ℕ → ℕ → ℤ
own_climb r q t = held (r.start *ℤ pos (q * q)) (r.aim *ℤ pos (q * q)) (r.pull * q) (r.hold * q) t

-- where the intruder is, times its acceleration, over q^4
abbrev pub intruder_at : Race → ℕ → ℕ → ℤ
intruder_at r q t = r.height *ℤ pos (q * q * q * (r.accel * q)) +ℤ approach (r.rate *ℤ pos (q * q)) (r.goal *ℤ pos (q * q)) (r.accel * q) t

-- how far the curve is above the intruder, times the pull and the acceleration, over q^5
abbrev pub race_gap : Race → ℕ → ℕ → ℤ
race_gap r q t = own_climb r q t *ℤ pos (r.accel * q) -ℤ intruder_at r q t *ℤ pos (r.pull * q)

-- a tick on that scale
abbrev pub race_tick : Race → ℕ → ℕ
race_tick r q = q * q * q * (r.pull * q) * (r.accel * q)
