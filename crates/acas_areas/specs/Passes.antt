-- Passes over one quantity of a flight, and the flight at which a search through several of them ends. A flight is of any type, and
-- has a value.
use Rattle.std.specs.Prelude.{◌≡◌, ℕ, ◌+◌, ◌-◌, ◌*◌, ◌<◌, ◌≤◌, min, List, [], ◌∷◌, Bool, true, false, ℤ, pos, ◌+ℤ◌, ◌-ℤ◌, unsigned_abs}
use Rattle.acas_frac.specs.Fraction.{Fraction}
use Rattle.acas_areas.specs.Value.{is_below, IsWithinHalf, IsLessThanAbove, thinnest}
use Rattle.acas_areas.specs.Halving.{HalvesTo}

-- n further on the way from one number to another, or at its end
abbrev pub toward : ℕ → ℕ → ℕ → ℕ
toward from to n = (from + min n (to - from)) - min n (from - to)

-- the same on a way up, and on a way down
abbrev pub rising : ℤ → ℤ → ℕ → ℤ
rising from to n = from +ℤ pos (min n (unsigned_abs (to -ℤ from)))

abbrev pub falling : ℤ → ℤ → ℕ → ℤ
falling from to n = from -ℤ pos (min n (unsigned_abs (from -ℤ to)))

-- a pass: its numbered flights, the way of its quantity from one end to the other, and the step from a flight to the next
pub record Pass (F : Type 0) : Type 0 where
  pub point : ℕ → F
  pub way : ℕ
  pub step : ℕ

-- the pass that moves the quantity of a flight from one number to another, on a way that may go up or down
abbrev pub moving : {F : Type 0} → (ℕ → F) → ℕ → ℕ → ℕ → Pass F
moving flight_of from to step = record { point = λ i. flight_of (toward from to (i * step)); way = (to - from) + (from - to); step = step }

-- the same on a way up, and on a way down
abbrev pub moving_up : {F : Type 0} → (ℤ → F) → ℤ → ℤ → ℕ → Pass F
moving_up flight_of from to step = record { point = λ i. flight_of (rising from to (i * step)); way = unsigned_abs (to -ℤ from); step = step }

abbrev pub moving_down : {F : Type 0} → (ℤ → F) → ℤ → ℤ → ℕ → Pass F
moving_down flight_of from to step = record { point = λ i. flight_of (falling from to (i * step)); way = unsigned_abs (from -ℤ to); step = step }

-- the point of that number is the first at the other end
pub record IsLast {F : Type 0} (p : Pass F) (last : ℕ) : Type 0 where
  pub reaches : p.way ≤ last * p.step
  pub first : last * p.step < p.way + p.step

-- the flight of a number is below
abbrev pub below_at : {F : Type 0} → (F → Fraction) → ℕ → Pass F → ℕ → Bool
below_at value half p i = is_below half (value (p.point i))

-- The search ends in the first pass whose last flight is not below, at the flight at which its halving ends.
pub data EndsAt {F : Type 0} (value : F → Fraction) (half : ℕ) : List (Pass F) → F → Type 0 where
  here : (p : Pass F) (rest : List (Pass F)) (last at : ℕ) → IsLast p last → below_at value half p last ≡ false → HalvesTo (below_at value half p) 0 last at → EndsAt value half (p ∷ rest) (p.point at)
  later : (p : Pass F) (rest : List (Pass F)) (last : ℕ) (c : F) → IsLast p last → below_at value half p last ≡ true → EndsAt value half rest c → EndsAt value half (p ∷ rest) c

-- The flight that a search from a low flight to a high flight finds: the low flight if it is in contact, otherwise the high flight if
-- it is, and otherwise the one at which the passes end.
pub data IsFound {F : Type 0} (value : F → Fraction) (half : ℕ) (low high : F) (passes : List (Pass F)) : F → Type 0 where
  at_low : IsWithinHalf half (value low) → IsFound value half low high passes low
  at_high : ¬ IsWithinHalf half (value low) → IsWithinHalf half (value high) → IsFound value half low high passes high
  between : (c : F) → ¬ IsWithinHalf half (value low) → ¬ IsWithinHalf half (value high) → EndsAt value half passes c → IsFound value half low high passes c

-- ---- what holds of passes

-- each flight is above the one before it by less than the thinnest puck is thick
abbrev pub IsGentle : {F : Type 0} → (F → Fraction) → Pass F → Type 0
IsGentle value p = (i : ℕ) → IsLessThanAbove thinnest (value (p.point i)) (value (p.point (i + 1)))

-- where a pass ends the next one begins
abbrev pub AreJoined : {F : Type 0} → List (Pass F) → Type 0
AreJoined [] = Unit {0}
AreJoined (p ∷ []) = Unit {0}
AreJoined (p ∷ p' ∷ rest) = ((last : ℕ) → IsLast p last → p.point last ≡ p'.point 0) × AreJoined (p' ∷ rest)

-- each pass of the list
abbrev pub Each : {F : Type 0} → (Pass F → Type 0) → List (Pass F) → Type 0
Each P [] = Unit {0}
Each P (p ∷ rest) = P p × Each P rest
