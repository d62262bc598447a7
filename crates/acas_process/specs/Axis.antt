-- Interpolation on one axis, whose numbers rise.
use Rattle.std.specs.Prelude.{ℕ, zero, suc, ◌+◌, ◌*◌, ◌/◌, ℤ, ◌-ℤ◌, unsigned_abs, Bool, ◌&&◌, List, [], ◌∷◌, length, if◌then◌else◌, nat_lt, int_le}
use Rattle.acas_spec.specs.Axis.{place_value}

-- how far it is from a to b
abbrev pub distance : ℤ → ℤ → ℕ
distance a b = unsigned_abs (b -ℤ a)

-- the gap between the places k and k + 1 of an axis
abbrev pub gap : List ℤ → ℕ → ℕ
gap axis k = distance (place_value axis k) (place_value axis (k + 1))

-- the product of all gaps of an axis
abbrev pub gap_product : List ℤ → ℕ
gap_product [] = 1
gap_product (a ∷ []) = 1
gap_product (a ∷ b ∷ rest) = distance a b * gap_product (b ∷ rest)

-- x is between the numbers at the places k and k + 1
abbrev pub is_between : List ℤ → ℕ → ℤ → Bool
is_between axis k x =
    nat_lt (k + 1) (length axis) && (int_le (place_value axis k) x && int_le x (place_value axis (k + 1)))

-- the line that rises between the places k and k + 1, from 0 to the gap product
abbrev pub rise : List ℤ → ℕ → ℤ → ℕ
rise axis k x = distance (place_value axis k) x * (gap_product axis / gap axis k)

-- the line that falls between the places k and k + 1, from the gap product to 0
abbrev pub fall : List ℤ → ℕ → ℤ → ℕ
fall axis k x = distance x (place_value axis (k + 1)) * (gap_product axis / gap axis k)

-- the tent of a place at x is the gap product times the hat function of the place: it rises from the place before, falls to the place
-- after, and is 0 elsewhere
abbrev pub tent : List ℤ → ℕ → ℤ → ℕ
tent axis zero x = if is_between axis 0 x then fall axis 0 x else 0
tent axis (suc i) x =
    if is_between axis i x then rise axis i x
    else if is_between axis (suc i) x then fall axis (suc i) x else 0
