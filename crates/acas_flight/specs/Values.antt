-- Exact fractions against whole numbers over a denominator, and the curves as fractions.
use Rattle.std.specs.Prelude.{◌≡◌, ℕ, ◌+◌, ◌-◌, ◌*◌, ◌<◌, ℤ, pos, neg_ℤ, ◌+ℤ◌, ◌-ℤ◌, ◌*ℤ◌, ◌≤ℤ◌, Bool, if◌then◌else◌}
use Rattle.acas_frac.specs.Fraction.{Fraction}
use Rattle.acas_flight.specs.Response.{Demand, scaled}
use Rattle.acas_flight.specs.Curves.{approach, held, lowest, highest, low_pull, high_pull}

-- a fraction is at most another, by cross products
abbrev pub IsAtMost : Fraction → Fraction → Type 0
IsAtMost f g = (f.num *ℤ pos g.den) ≤ℤ (g.num *ℤ pos f.den)

-- n over d is the fraction
abbrev pub IsOver : ℕ → ℤ → Fraction → Type 0
IsOver d n f = n *ℤ pos f.den ≡ f.num *ℤ pos d

-- the fraction of the other sign
abbrev pub negated : Fraction → Fraction
negated f = record { num = neg_ℤ f.num; den = f.den }

-- y is the climb in the time t of an approach from the rate v to the aim k with the acceleration b, over each common
-- denominator q
pub record IsApproach (v k b t y : Fraction) : Type 0 where
  pub over : (q : ℕ) (vn kn : ℤ) (bn tn : ℕ) → 0 < q → IsOver (q * q) vn v → IsOver (q * q) kn k → IsOver q (pos bn) b → IsOver q (pos tn) t →
      y.num *ℤ pos (q * q * q * bn) ≡ approach vn kn bn tn *ℤ pos y.den

-- the same where the rate is held for the time g before
pub record IsHeld (v k b g t y : Fraction) : Type 0 where
  pub over : (q : ℕ) (vn kn : ℤ) (bn gn tn : ℕ) → 0 < q → IsOver (q * q) vn v → IsOver (q * q) kn k → IsOver q (pos bn) b → IsOver q (pos gn) g → IsOver q (pos tn) t →
      y.num *ℤ pos (q * q * q * bn) ≡ held vn kn bn gn tn *ℤ pos y.den

-- y is the least climb in the time t from the rate v, over each common denominator q
pub record IsLowestClimb (a : Demand) (v t y : Fraction) : Type 0 where
  pub over : (q : ℕ) (vn : ℤ) (tn : ℕ) → 0 < q → IsOver (q * q) vn v → IsOver q (pos tn) t →
      y.num *ℤ pos (q * q * q * low_pull (scaled q a) vn) ≡ lowest (scaled q a) vn tn *ℤ pos y.den

-- y is the greatest climb
pub record IsHighestClimb (a : Demand) (v t y : Fraction) : Type 0 where
  pub over : (q : ℕ) (vn : ℤ) (tn : ℕ) → 0 < q → IsOver (q * q) vn v → IsOver q (pos tn) t →
      y.num *ℤ pos (q * q * q * high_pull (scaled q a) vn) ≡ highest (scaled q a) vn tn *ℤ pos y.den

-- What a curve loses against the climb at its aim's rate, times the pull, over the way from its start to its aim: in a hold that
-- would have gained `kept`, and in an approach that gains `gain`.
abbrev pub all_lost : ℕ → ℕ → ℕ → ℕ
all_lost way kept gain = (way + way) * kept + (way * way - (way - gain) * (way - gain))

-- the climb at the aim's rate, less the loss where the rate rises, and more by it where it falls
abbrev pub less_or_more : Bool → ℤ → ℕ → ℤ
less_or_more rising straight loss = if rising then straight -ℤ pos loss else straight +ℤ pos loss
