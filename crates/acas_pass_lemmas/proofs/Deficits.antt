-- How the square of a deficit changes with its start and with its pull.
use Rattle.std.proofs.Common.{◌≡◌, ℕ, ◌+◌, ◌-◌, ◌*◌, ◌<◌, ◌≤◌, ⊎_elim, arith, mul-le-mul, mul-le-mul_left, le_of_lt}
use Rattle.std.proofs.lemmas.Bool.{cases_lt}
use Rattle.acas_frac.proofs.Squares.{sq}

start_near : (x d s m : ℕ) → x ≡ m + s → (x + d) * (x + d) + m * m ≤ x * x + (m + d) * (m + d) + (d + d) * s
start_near x d s m e = rw e (omega arith)

start_past : (x d s g c : ℕ) → d ≡ g + c → s ≡ x + c → (x + d) * (x + d) ≤ x * x + g * g + (d + d) * s
start_past x d s g c e f = rw (f, e) (omega arith)

start_far : (x d s : ℕ) → x + d ≤ s → (x + d) * (x + d) ≤ x * x + (d + d) * s
start_far x d s l = omega (arith, mul-le-mul_left d l)

-- the start rate, d farther from the aim
pub start_change : (x d s : ℕ) → sq (x + d) + sq (x - s) ≤ sq x + sq (x + d - s) + (d + d) * s
start_change x d s =
    ⊎_elim
    (λ (l : x < s). let f : x - s ≡ 0 = omega arith in
    ⊎_elim
    (λ (k : x + d < s). let e : x + d - s ≡ 0 = omega arith in rw (e, f) (omega (arith, start_far x d s (le_of_lt k))))
    (λ (k : s ≤ x + d). rw f (omega (arith, start_past x d s (x + d - s) (s - x) (omega arith) (omega arith))))
    (cases_lt (x + d) s))
    (λ (l : s ≤ x). let e : x + d - s ≡ (x - s) + d = omega arith in rw e (start_near x d s (x - s) (omega arith)))
    (cases_lt x s)

twice_product : (c n : ℕ) → 2 * (c * n) ≤ c * c + n * n
twice_product c n = ⊎_elim (λ (l : c < n). by c n (n - c) (omega arith)) (λ (l : n ≤ c). omega (arith, by n c (c - n) (omega arith))) (cases_lt c n)
  where
    by : (c n r : ℕ) → n ≡ c + r → 2 * (c * n) ≤ c * c + n * n
    by c n r e = rw e (omega arith)

pull_before : (x b e t y : ℕ) → x ≡ y + (b + e) * t → b * (y * y) + (b + e) * (x * x) ≤ (b + e) * ((y + e * t) * (y + e * t)) + b * (x * x) + (b * (b + e)) * ((t * t) * e)
pull_before x b e t y h = rw h (omega arith)

pull_between : (x b e t c : ℕ) → x ≡ c + b * t → (b + e) * (x * x) ≤ (b + e) * (c * c) + b * (x * x) + (b * (b + e)) * ((t * t) * e)
pull_between x b e t c h = rw h (omega (arith, mul-le-mul_left b (twice_product c (e * t))))

pull_after : (x b e t : ℕ) → x ≤ b * t → (b + e) * (x * x) ≤ b * (x * x) + (b * (b + e)) * ((t * t) * e)
pull_after x b e t h = omega (arith, mul-le-mul_left e (mul-le-mul h h))

-- the pull, from b to b + e, in the time t
pub pull_change : (x b e t : ℕ) → b * sq (x - (b + e) * t) + (b + e) * sq x ≤ (b + e) * sq (x - b * t) + b * sq x + (b * (b + e)) * ((t * t) * e)
pull_change x b e t =
    let more : (b + e) * t ≡ b * t + e * t = omega arith in
    ⊎_elim
    (λ (l : x < b * t).
    let f : x - b * t ≡ 0 = omega arith in
    let g : x - (b + e) * t ≡ 0 = omega arith in
    rw (f, g) (omega (arith, pull_after x b e t (le_of_lt l))))
    (λ (l : b * t ≤ x).
    ⊎_elim
    (λ (k : x < (b + e) * t).
    let g : x - (b + e) * t ≡ 0 = omega arith in
    rw g (omega (arith, pull_between x b e t (x - b * t) (omega arith))))
    (λ (k : (b + e) * t ≤ x).
    let g : x - b * t ≡ (x - (b + e) * t) + e * t = omega arith in
    rw g (pull_before x b e t (x - (b + e) * t) (omega arith)))
    (cases_lt x ((b + e) * t)))
    (cases_lt x (b * t))
