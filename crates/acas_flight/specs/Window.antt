-- The times at which ranges and closing speeds are in horizontal contact.
use Rattle.std.specs.Prelude.{ℕ, ◌*◌, ◌<◌, ◌↔◌, ℤ, pos, ◌*ℤ◌, ◌≤ℤ◌}
use Rattle.acas_frac.specs.Fraction.{Fraction}
use Rattle.acas_spec.specs.Model.{ModelData}
use Rattle.acas_flight.specs.State.{Interval, IsInside, IsSecondsAway}
use Rattle.acas_flight.specs.Contact.{IsHorizontalContact}

-- the times from one to another, both included
pub record Times : Type 0 where
  pub from : Fraction
  pub to : Fraction

-- t over q is one of the times
abbrev pub IsDuring : ℕ → Times → ℕ → Type 0
IsDuring q w t = ((w.from.num *ℤ pos q) ≤ℤ pos (t * w.from.den)) × (pos (t * w.to.den) ≤ℤ (w.to.num *ℤ pos q))

-- some range and closing speed of a cell of n seconds are in horizontal contact at the time t over q
abbrev pub IsContactTimeOfCell : ModelData → ℕ → ℕ → ℕ → Type 0
IsContactTimeOfCell m n q t = (range : ℤ) × (closing : ℤ) × IsSecondsAway m n q range closing × IsHorizontalContact m.radius q range closing t

-- some range and closing speed of the two intervals, over a multiple of q, are in horizontal contact at the time t over q
abbrev pub IsContactTimeOfBox : ℕ → Interval → Interval → ℕ → ℕ → Type 0
IsContactTimeOfBox radius ranges speeds q t =
    (n : ℕ) × (range : ℤ) × (closing : ℤ) × (0 < n) × IsInside (q * n) ranges range × IsInside (q * n) speeds closing
    × IsHorizontalContact radius (q * n) range closing (t * n)

-- the times are exactly those at which some range and closing speed of a cell of n seconds are in horizontal contact
pub record IsWindowOfCell (m : ModelData) (n : ℕ) (w : Times) : Type 0 where
  pub exact : (q t : ℕ) → 0 < q → IsDuring q w t ↔ IsContactTimeOfCell m n q t

-- the times are exactly those at which some range and closing speed of a box are
pub record IsWindowOfBox (m : ModelData) (ranges speeds : Interval) (w : Times) : Type 0 where
  pub exact : (q t : ℕ) → 0 < q → IsDuring q w t ↔ IsContactTimeOfBox m.radius ranges speeds q t
