-- A quotient by a known divisor: what its multiplier gives is the quotient, with no correction.
use Rattle.std.proofs.Common.{◌≡◌, ℕ, ◌+◌, ◌-◌, ◌*◌, ◌/◌, ◌^◌, ◌<◌, ◌≤◌, mul-le-mul_left, mul-le-mul_right, ◌%◌, pow-add, ap, sym, subst, ◌∙◌, arith}
use Rattle.std.proofs.lemmas.Nat.{div-add-mod', div_below, mod_below}
use Rattle.std.proofs.Math.Pow.{pow-lt}
use Rattle.std.proofs.Math.Nat.{div-div-eq-div-mul, div-eq_of_lt-le, le_of_lt, mod-eq_of_lt, lt_of_mul-lt-mul_right}

-- a multiplier has 64 bits
multiplier_below : (s b : ℕ) → 0 < b → 2 ^ s ≤ b → (2 ^ (64 + s) - 1) / b < 2 ^ 64
multiplier_below s b some least = div_below (2 ^ (64 + s) - 1) b (2 ^ 64) some (omega (arith, pow-add 2 64 s, least, some))

-- as it is formed, in 128 bits
pub multiplier_fits : (s b : ℕ) → s < 64 → 0 < b → 2 ^ s ≤ b → (1 * 2 ^ (64 + s) % 2 ^ 128 - 1) / b < 2 ^ 64
multiplier_fits s b few some least =
    let small : 2 ^ (64 + s) < 2 ^ 128 = pow-lt {i = 64 + s} {j = 128} (omega arith) in
    let same : 1 * 2 ^ (64 + s) % 2 ^ 128 ≡ 2 ^ (64 + s) = mod-eq_of_lt (omega (arith, small)) ∙ omega arith in
    subst (λ (n : ℕ). (n - 1) / b < 2 ^ 64) (sym same) (multiplier_below s b some least)

-- The product of a number's successor and a multiplier m of b, where b times m is e less than 2^64 p, and q is the number over b: it is
-- at least q times 2^64 p
product-low : (x q b m p e : ℕ) → m * b + e ≡ 2 ^ 64 * p → e ≤ b → b < 2 * p → x < 2 ^ 63 → q * b ≤ x → q * (2 ^ 64 * p) < (x + 1) * m
product-low x q b m p e whole small below few quotient =
    let exact : (x + 1) * (m * b + e) ≡ (x + 1) * (2 ^ 64 * p) = ap (λ (n : ℕ). (x + 1) * n) whole in
    let spread : (x + 1) * e ≤ (x + 1) * b = mul-le-mul_left (x + 1) small in
    let most : x + 1 ≤ 2 ^ 63 = omega arith in
    let rest : (x + 1) * b ≤ 2 ^ 63 * b = mul-le-mul_right b most in
    let scaled : (q * b) * (2 ^ 64 * p) ≤ x * (2 ^ 64 * p) = mul-le-mul_right (2 ^ 64 * p) quotient in
    lt_of_mul-lt-mul_right b (omega arith)

-- and below the next multiple of it
product-high : (x q b m w : ℕ) → 0 < w → m * b < w → x < q * b + b → (x + 1) * m < (q + 1) * w
product-high x q b m w some below quotient =
    let less : m * b + 1 ≤ w = omega arith in
    let product : (x + 1) * (m * b + 1) ≤ (x + 1) * w = mul-le-mul_left (x + 1) less in
    let next : x + 1 ≤ q * b + b = omega arith in
    let scaled : (x + 1) * w ≤ (q * b + b) * w = mul-le-mul_right w next in
    lt_of_mul-lt-mul_right b (omega arith)

-- so its upper digits are the quotient
product-quotient : (x b m p : ℕ) → 0 < b → b < 2 * p → m ≡ (2 ^ 64 * p - 1) / b → x < 2 ^ 63 → (x + 1) * m / (2 ^ 64 * p) ≡ x / b
product-quotient x b m p some below is few =
    let parts : m * b + (2 ^ 64 * p - 1) % b ≡ 2 ^ 64 * p - 1 = ap (λ (n : ℕ). n * b + (2 ^ 64 * p - 1) % b) is ∙ div-add-mod' (2 ^ 64 * p - 1) b in
    let rest : (2 ^ 64 * p - 1) % b < b = mod_below (2 ^ 64 * p - 1) b some in
    let whole : m * b + ((2 ^ 64 * p - 1) % b + 1) ≡ 2 ^ 64 * p = omega arith in
    let number : (x / b) * b + x % b ≡ x = div-add-mod' x b in
    let left : x % b < b = mod_below x b some in
    let low = product-low x (x / b) b m p ((2 ^ 64 * p - 1) % b + 1) whole (omega arith) below few (omega arith) in
    let high = product-high x (x / b) b m (2 ^ 64 * p) (omega arith) (omega arith) (omega arith) in
    div-eq_of_lt-le (2 ^ 64 * p) (le_of_lt low) high

-- in two steps: the upper half, and the shift
pub half-quotient : (x next b m s half : ℕ) → 0 < b → b < 2 ^ (s + 1) → m ≡ (2 ^ (64 + s) - 1) / b → x < 2 ^ 63 → next ≡ x + 1 → half ≡ next * m / 2 ^ 64 →
    half / 2 ^ s ≡ x / b
half-quotient x next b m s half some below is few after from =
    ap (λ (n : ℕ). n / 2 ^ s) from
    ∙ div-div-eq-div-mul (next * m) (2 ^ 64) (2 ^ s)
    ∙ ap (λ (n : ℕ). n * m / (2 ^ 64 * 2 ^ s)) after
    ∙ product-quotient x b m (2 ^ s) some (omega (arith, pow-add 2 s 1, below)) (is ∙ ap (λ (n : ℕ). (n - 1) / b) (pow-add 2 64 s)) few
