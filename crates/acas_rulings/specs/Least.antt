-- The time at which a curve is first nearest an intruder that goes to a rate of its own.
use Rattle.acas_frac.specs.Fraction.{Fraction}
use Rattle.acas_flight.specs.Window.{Times}
use Rattle.acas_flight.specs.Extremes.{IsExtreme, IsFirstLeast}
use Rattle.acas_rulings.specs.Race.{Race, race_gap}

-- the time is the earliest of the window's at which the gap of a race is least
abbrev pub IsFirstLeastTime : Race → Times → Fraction → Type 0
IsFirstLeastTime r w time = IsFirstLeast (λ q t. race_gap r q t) w time

-- the time is that, and in lowest terms
abbrev pub IsRaceExtreme : Race → Times → Fraction → Type 0
IsRaceExtreme r w time = IsExtreme (λ q t. race_gap r q t) w time
