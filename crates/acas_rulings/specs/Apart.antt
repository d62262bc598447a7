-- When an area is apart from an intruder that may change its rate.
use Rattle.std.specs.Prelude.{ℕ, ◌*◌, ◌<◌, ◌⊎◌, pos, neg_ℤ, ◌<ℤ◌}
use Rattle.acas_flight.specs.Response.{Demand}
use Rattle.acas_flight.specs.Window.{Times, IsDuring}
use Rattle.acas_flight.specs.Clear.{Area}
use Rattle.acas_rulings.specs.Intruder.{Manoeuvre}
use Rattle.acas_rulings.specs.Race.{Race, low_race, high_race, race_gap, race_tick}

-- the curve is more than the half height above the intruder at each time
abbrev pub StaysAbove : ℕ → Race → Times → Type 0
StaysAbove half r w = (q t : ℕ) → 0 < q → IsDuring q w t → pos (half * race_tick r q) <ℤ race_gap r q t

-- more than the half height below it
abbrev pub StaysBelow : ℕ → Race → Times → Type 0
StaysBelow half r w = (q t : ℕ) → 0 < q → IsDuring q w t → race_gap r q t <ℤ neg_ℤ (pos (half * race_tick r q))

-- Dmin is more than the half height throughout, or Dmax less than that below
abbrev pub IsApart : ℕ → Demand → Manoeuvre → Area → Times → Type 0
IsApart half a may area w = StaysAbove half (low_race a may area) w ⊎ StaysBelow half (high_race a may area) w
