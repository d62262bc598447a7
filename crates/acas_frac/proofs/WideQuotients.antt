-- A quotient by a known divisor in two parts: that of the upper digits, and that of what these leave.
use Rattle.std.proofs.Common.{◌≡◌, ℕ, ◌+◌, ◌-◌, ◌*◌, ◌/◌, ◌^◌, ◌<◌, ◌≤◌, ◌%◌, mul-le-mul_left, mul-le-mul_right, pow-add, ap, sym, ◌∙◌, ⊎_elim, arith}
use Rattle.std.proofs.lemmas.Nat.{div-add-mod', mod_below}
use Rattle.std.proofs.lemmas.Bool.{cases_lt}
use Rattle.std.proofs.Math.Pow.{pow_mono}
use Rattle.std.proofs.Math.Nat.{mul-add-div_right, mod-eq_of_lt}

-- what the multiple of the upper digits' quotient leaves
rest_is : (x p d : ℕ) → 0 < d → (x / p / d) * p * d + ((x / p % d) * p + x % p) ≡ x
rest_is x p d some =
    let upper : (x / p / d) * d + x / p % d ≡ x / p = div-add-mod' (x / p) d in
    let whole : (x / p) * p + x % p ≡ x = div-add-mod' x p in
    let spread : ((x / p / d) * d + x / p % d) * p ≡ (x / p) * p = ap (λ (n : ℕ). n * p) upper in
    omega (arith, whole, spread)

pub upper-le : (x p d : ℕ) → 0 < d → (x / p / d) * p * d ≤ x
upper-le x p d some = omega (arith, rest_is x p d some)

pub rest-below : (x p d : ℕ) → 0 < d → 0 < p → x - (x / p / d) * p * d < d * p
rest-below x p d some digits =
    let is = rest_is x p d some in
    let left : x / p % d < d = mod_below (x / p) d some in
    let lower : x % p < p = mod_below x p digits in
    let next : x / p % d + 1 ≤ d = omega (arith, left) in
    let most : (x / p % d + 1) * p ≤ d * p = mul-le-mul_right p next in
    omega (arith, is, lower, most)

-- the two parts together
pub quotients-joined : (x p d : ℕ) → 0 < d → (x / p / d) * p + (x - (x / p / d) * p * d) / d ≡ x / d
quotients-joined x p d some =
    let whole : ((x / p / d) * p) * d + (x - (x / p / d) * p * d) ≡ x = omega (arith, upper-le x p d some) in
    sym (mul-add-div_right some ((x / p / d) * p) (x - (x / p / d) * p * d)) ∙ ap (λ (n : ℕ). n / d) (omega (arith, whole))

-- a divisor of s + 1 digits times 2 to all but s of 62
pub unit_room : (d s : ℕ) → d < 2 ^ (s + 1) → s ≤ 62 → d * 2 ^ (62 - s) ≤ 2 ^ 63
unit_room d s below few =
    let most : d * 2 ^ (62 - s) ≤ 2 ^ (s + 1) * 2 ^ (62 - s) = mul-le-mul_right (2 ^ (62 - s)) (omega (arith, below)) in
    let digits : s + 1 + (62 - s) ≡ 63 = omega (arith, few) in
    let joined : 2 ^ (s + 1) * 2 ^ (62 - s) ≡ 2 ^ 63 = sym (pow-add 2 (s + 1) (62 - s)) ∙ ap (λ (n : ℕ). 2 ^ n) digits in
    omega (arith, most, joined)

-- a divisor of at most 62 digits has a shift of at most 62
pub short_shift : (d s : ℕ) → 2 ^ s ≤ d → d ≤ 2 ^ 62 → s ≤ 62
short_shift d s least most =
    ⊎_elim (λ l. omega (arith, l)) (λ h. omega (arith, least, most, pow_mono h)) (cases_lt s 63)

-- a product that is no more than a number of 128 digits
pub upper_fits : (x p d : ℕ) → 0 < d → x < 2 ^ 128 → (x / p / d) * p % 2 ^ 128 ≡ (x / p / d) * p
upper_fits x p d some fits =
    let one : (x / p / d) * p * 1 ≤ (x / p / d) * p * d = mul-le-mul_left ((x / p / d) * p) some in
    mod-eq_of_lt (omega (arith, one, upper-le x p d some, fits))
