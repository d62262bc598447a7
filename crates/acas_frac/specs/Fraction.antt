-- Exact fractions, and those in lowest terms that are small enough for products of 128 bits.
use Rattle.std.specs.Prelude.{◌≡◌, ℕ, ◌*◌, ◌^◌, ◌<◌, ◌≤◌, ℤ, pos, negsuc, ◌+ℤ◌, ◌-ℤ◌, ◌*ℤ◌, ◌<ℤ◌, neg_ℤ, unsigned_abs, List, [], ◌∷◌, ◌++◌, nat_eq, refl, Bool, if◌then◌else◌}
use Rattle.std.specs.Fmt.{decimal, signed_decimal}
use Rattle.std.specs.Int.{IsGcd}
use Rattle.std.specs.Ordering.{int_cmp}
use Rattle.std.specs.declared.cmp.Ordering.{Ordering}

-- num / den; what is defined here is meant for a den above 0
pub record Fraction : Type 0 where
  pub num : ℤ
  pub den : ℕ

-- the two have the same value, by cross products
abbrev pub Same : Fraction → Fraction → Type 0
Same f g = f.num *ℤ pos g.den ≡ g.num *ℤ pos f.den

-- in lowest terms: no number above 1 divides both parts, so that zero is 0/1
abbrev pub IsLowest : Fraction → Type 0
IsLowest f = IsGcd (unsigned_abs f.num) f.den 1

-- a fraction in lowest terms, with a denominator above 0: the one that is printed
pub record IsReduced (f : Fraction) : Type 0 where
  pub some : 0 < f.den
  pub lowest : IsLowest f

-- a fraction in lowest terms with a numerator of at most 10^24 and a denominator from 1 to 10^13
pub record IsFrac (f : Fraction) : Type 0 where
  pub some : 0 < f.den
  pub den_small : f.den ≤ 10 ^ 13
  pub num_small : unsigned_abs f.num ≤ 10 ^ 24
  pub lowest : IsLowest f

-- num / den, in lowest terms, has a numerator of at most 10^24 and a denominator of at most 10^13
pub record ReducesWithinBounds (num den : ℕ) : Type 0 where
  pub parts : (g : ℕ) → IsGcd num den g → (num ≤ 10 ^ 24 * g) × (den ≤ 10 ^ 13 * g)

-- the same of a fraction
abbrev pub StaysWithinBounds : Fraction → Type 0
StaysWithinBounds f = ReducesWithinBounds (unsigned_abs f.num) f.den

-- a whole number
abbrev pub whole_of : ℤ → Fraction
whole_of n = record { num = n; den = 1 }

-- the sum, the difference and the product, not reduced
abbrev pub sum_of : Fraction → Fraction → Fraction
sum_of f g = record { num = (f.num *ℤ pos g.den) +ℤ (g.num *ℤ pos f.den); den = f.den * g.den }

abbrev pub difference_of : Fraction → Fraction → Fraction
difference_of f g = record { num = (f.num *ℤ pos g.den) -ℤ (g.num *ℤ pos f.den); den = f.den * g.den }

abbrev pub product_of : Fraction → Fraction → Fraction
product_of f g = record { num = f.num *ℤ g.num; den = f.den * g.den }

-- the product with a whole number, not reduced
abbrev pub multiple_of : Fraction → ℤ → Fraction
multiple_of f n = record { num = f.num *ℤ n; den = f.den }

-- the order of the two values
abbrev pub order_of : Fraction → Fraction → Ordering
order_of f g = int_cmp (f.num *ℤ pos g.den) (g.num *ℤ pos f.den)

-- `n`, where the denominator is 1, and else `n/d`
abbrev pub fraction_text : Fraction → List ℕ
fraction_text f = signed_decimal f.num ++ (if nat_eq f.den 1 then [] else 47 ∷ decimal f.den)

-- the number of that size and sign
abbrev pub signed : Bool → ℕ → ℤ
signed negative n = if negative then neg_ℤ (pos n) else pos n

-- a number above 0 is its size
pub pos-unsigned_abs : (z : ℤ) → pos 0 <ℤ z → pos (unsigned_abs z) ≡ z
pos-unsigned_abs (pos n) h = refl
pos-unsigned_abs (negsuc n) h = absurd h.lt
