-- What the inner functions say of a quantity that changes evenly faster or slower within a second.
use Rattle.std.specs.Prelude.{◌≤◌, ℤ, pos, ◌+ℤ◌, ◌-ℤ◌, ◌*ℤ◌, ◌≤ℤ◌, ◌<ℤ◌, unsigned_abs, ◌⊎◌}
use Rattle.acas_units.specs.declared.limits.TheConstants.{GREATEST_CLOSING}
use Rattle.acas_replay.specs.declared.parabola.Fractions.{Fractions}
use Rattle.acas_replay.specs.declared.parabola.Parabola.{Parabola}
use Rattle.acas_replay.specs.declared.parabola.TheConstants.{LARGEST_BEND, LARGEST_LEVEL, LARGEST_SLOPE}

-- the value at a of q parts of the second, over q^2
unfoldable pub value_at : Parabola → ℤ → ℤ → ℤ
value_at p a q = p.level *ℤ (q *ℤ q) +ℤ pos 2 *ℤ p.slope *ℤ (a *ℤ q) +ℤ p.bend *ℤ (a *ℤ a)

-- half of its slope there, over q
abbrev pub half_slope_at : Parabola → ℤ → ℤ → ℤ
half_slope_at p a q = a *ℤ p.bend +ℤ p.slope *ℤ q

-- less by so much
abbrev pub lowered : Parabola → ℤ → Parabola
lowered p by = record { level = p.level -ℤ by; slope = p.slope; bend = p.bend }

-- turned upside down
abbrev pub turned : Parabola → Parabola
turned p = record { level = pos 0 -ℤ p.level; slope = pos 0 -ℤ p.slope; bend = pos 0 -ℤ p.bend }

-- a of q parts are between the two fractions
pub record IsBetween (f : Fractions) (q a : ℤ) : Type 0 where
  pub some : pos 0 <ℤ q
  pub after : (f.first *ℤ q) ≤ℤ (f.parts *ℤ a)
  pub before : (f.parts *ℤ a) ≤ℤ (f.last *ℤ q)

-- the value is above 0 at each fraction between the two
abbrev pub StaysAbove : Parabola → Fractions → Type 0
StaysAbove p f = (q a : ℤ) → IsBetween f q a → pos 0 <ℤ value_at p a q

-- at some fraction between them it is not
abbrev pub ComesDown : Parabola → Fractions → Type 0
ComesDown p f = (q : ℤ) × (a : ℤ) × IsBetween f q a × (value_at p a q ≤ℤ pos 0)

-- it is above the half at each of them, or below its opposite at each
abbrev pub StaysOutside : ℤ → Parabola → Fractions → Type 0
StaysOutside half p f = StaysAbove (lowered p half) f ⊎ StaysAbove (lowered (turned p) half) f

-- at some it is at most the half, and at some at least its opposite
abbrev pub ComesInside : ℤ → Parabola → Fractions → Type 0
ComesInside half p f = ComesDown (lowered p half) f × ComesDown (lowered (turned p) half) f

-- a parabola whose numbers are so small that no product is too large
pub record IsSmall (p : Parabola) : Type 0 where
  pub level : unsigned_abs p.level ≤ LARGEST_LEVEL
  pub slope : unsigned_abs p.slope ≤ LARGEST_SLOPE
  pub bend : unsigned_abs p.bend ≤ LARGEST_BEND

-- two fractions over a number of parts, the first not after the last
pub record AreFractions (f : Fractions) : Type 0 where
  pub some : pos 0 <ℤ f.parts
  pub parts : unsigned_abs f.parts ≤ GREATEST_CLOSING
  pub first : unsigned_abs f.first ≤ GREATEST_CLOSING
  pub last : unsigned_abs f.last ≤ GREATEST_CLOSING
  pub order : f.first ≤ℤ f.last
