-- How the first least time of a race is found in whole numbers: among the ends of the window and one time between.
use Rattle.std.specs.Prelude.{◌≡◌, ℕ, ◌+◌, ◌*◌, ◌<◌, ◌≤◌, ℤ, pos, ◌+ℤ◌, ◌-ℤ◌, ◌*ℤ◌, ◌≤ℤ◌, ◌<ℤ◌}
use Rattle.acas_frac.specs.Fraction.{Fraction}
use Rattle.acas_flight.specs.Curves.{approach, held}
use Rattle.acas_flight.specs.Window.{Times}
use Rattle.acas_rulings.specs.Race.{Race}

-- a time of num/den seconds
pub record Instant : Type 0 where
  pub num : ℕ
  pub den : ℕ

abbrev pub fraction_of : Instant → Fraction
fraction_of p = record { num = pos p.num; den = p.den }

-- the gap at it, over the square of its denominator, the pull and the acceleration
abbrev pub race_number : Race → Instant → ℤ
race_number r p =
    held (r.start *ℤ pos p.den) (r.aim *ℤ pos p.den) r.pull (r.hold * p.den) p.num *ℤ pos r.accel
    -ℤ (r.height *ℤ pos (p.den * p.den * r.accel) +ℤ approach (r.rate *ℤ pos p.den) (r.goal *ℤ pos p.den) r.accel p.num) *ℤ pos r.pull

-- the gap is less at one than at another
abbrev pub IsLower : Race → Instant → Instant → Type 0
IsLower r p p' = (race_number r p *ℤ pos (p'.den * p'.den)) <ℤ (race_number r p' *ℤ pos (p.den * p.den))

abbrev pub IsAsLow : Race → Instant → Instant → Type 0
IsAsLow r p p' = (race_number r p *ℤ pos (p'.den * p'.den)) ≤ℤ (race_number r p' *ℤ pos (p.den * p.den))

-- the intruder is at its goal before a rising curve is as fast
abbrev pub IsLateTurn : Race → Type 0
IsLateTurn r = (r.start *ℤ pos r.accel +ℤ (r.goal -ℤ r.rate) *ℤ pos r.pull) <ℤ (r.goal *ℤ pos r.accel +ℤ pos (r.hold * r.pull * r.accel))

abbrev pub IsEarlyTurn : Race → Type 0
IsEarlyTurn r = (r.goal *ℤ pos r.accel +ℤ pos (r.hold * r.pull * r.accel)) ≤ℤ (r.start *ℤ pos r.accel +ℤ (r.goal -ℤ r.rate) *ℤ pos r.pull)

-- When a rising curve comes to be as fast as the intruder: after the intruder is at its goal, or before; or never, because it gains no
-- speed on it, or is ahead from the start.
pub data IsTurnTime (r : Race) (p : Instant) : Type 0 where
  at_goal : IsLateTurn r → pos p.num ≡ (r.goal -ℤ r.start) +ℤ pos (r.hold * r.pull) → p.den ≡ r.pull → IsTurnTime r p
  on_the_way : IsEarlyTurn r → pos p.num ≡ (r.rate -ℤ r.start) +ℤ pos (r.hold * r.pull) → r.accel + p.den ≡ r.pull → 0 < p.den → IsTurnTime r p
  too_slow : IsEarlyTurn r → r.pull ≤ r.accel → IsTurnTime r p
  ahead : IsEarlyTurn r → r.accel < r.pull → (r.rate +ℤ pos (r.hold * r.pull)) <ℤ r.start → IsTurnTime r p

-- the first of three times, in their order, at which the gap is least
pub data IsFirstOf (r : Race) (from turn to : Instant) : Instant → Type 0 where
  at_from : IsAsLow r from turn → IsAsLow r from to → IsFirstOf r from turn to from
  at_turn : IsLower r turn from → IsAsLow r turn to → IsFirstOf r from turn to turn
  at_to : IsLower r to from → IsLower r to turn → IsFirstOf r from turn to to

abbrev pub IsSoonerOrSame : Instant → Instant → Type 0
IsSoonerOrSame p p' = p.num * p'.den ≤ p'.num * p.den

-- The curve does not rise; or it does, and the time between is the turn, or the turn is not between the two ends.
pub data IsLooked (r : Race) (from to : Instant) : Instant → Type 0 where
  falling : (place : Instant) → r.aim ≤ℤ r.start → IsLooked r from to place
  turning : (place : Instant) → r.start ≤ℤ r.aim → IsTurnTime r place → IsLooked r from to place
  turned_before : (place turn : Instant) → r.start ≤ℤ r.aim → 0 < turn.den → IsTurnTime r turn → IsSoonerOrSame turn from → IsLooked r from to place
  turns_after : (place turn : Instant) → r.start ≤ℤ r.aim → 0 < turn.den → IsTurnTime r turn → IsSoonerOrSame to turn → IsLooked r from to place

abbrev pub times_of : Instant → Instant → Times
times_of from to = record { from = fraction_of from; to = fraction_of to }
