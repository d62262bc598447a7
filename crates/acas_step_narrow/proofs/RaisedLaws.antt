-- Raised values, their blends and their quotients.
use Rattle.std.proofs.Common.{◌≡◌, ℕ, ◌+◌, ◌-◌, ◌*◌, ◌/◌, ◌<◌, ◌≤◌, ℤ, pos, ◌+ℤ◌, ◌-ℤ◌, ◌*ℤ◌, ◌≤ℤ◌, ◌<ℤ◌, unsigned_abs, mul-le-mul_right, ap, arith}
use Rattle.std.proofs.lemmas.Int.{ints}
use Rattle.std.proofs.lemmas.Nat.{div-add-mod', mod_below}
use Rattle.acas_frac.specs.Rounding.{down, up}
use Rattle.acas_frac.proofs.RoundingLaws.{down_greatest, down_is_floor, up_is_ceiling, up_least}
use Rattle.acas_frac.proofs.SignedProducts.{lt-from_mul_ℤ, mul-add_ℤ}
use Rattle.acas_step_narrow.specs.Raised.{blended, mixed, raised, width}
use Rattle.acas_step.specs.declared.cell.Ends.{Ends}

pub raised-pos : (by : ℕ) (z : ℤ) → unsigned_abs z ≤ by → pos (raised by z) ≡ z +ℤ pos by
raised-pos by z h = omega (arith, ints)

-- a blend of numbers up to so much is at most that, times the gap
pub blended-le : (e : Ends) (near far most : ℕ) → near ≤ most → far ≤ most → blended e near far ≤ most * width e
blended-le e near far most p q = omega (arith, mul-le-mul_right e.lower p, mul-le-mul_right e.upper q)

-- a number of no weight does not count
pub blended-alone : (e : Ends) (near far : ℕ) → e.upper ≡ 0 → near * e.lower ≡ blended e near far
blended-alone e near far none = omega (arith, ap (λ (n : ℕ). far * n) none)

-- a blend of raised numbers is raised by the gap times as much
pub blended-raised : (e : Ends) (near far by : ℕ) (y z : ℤ) → pos near ≡ y +ℤ pos by → pos far ≡ z +ℤ pos by →
    pos (blended e near far) ≡ mixed e y z +ℤ pos (by * width e)
blended-raised e near far by y z p q =
    omega (arith, ints, ap (λ w. pos e.lower *ℤ w) p, ap (λ w. pos e.upper *ℤ w) q, mul-add_ℤ (pos e.lower) y (pos by), mul-add_ℤ (pos e.upper) z (pos by))

-- ---- quotients of raised numbers

quotient-low : (s c : ℕ) → 0 < c → s / c * c ≤ s
quotient-low s c some = omega (arith, div-add-mod' s c)

quotient-high : (s c : ℕ) → 0 < c → s < s / c * c + c
quotient-high s c some = omega (arith, div-add-mod' s c, mod_below s c some)

shifted : (q c by : ℕ) → pos c *ℤ (pos q -ℤ pos by) ≡ pos (q * c) -ℤ pos (by * c)
shifted q c by =
    let back : pos q -ℤ pos by +ℤ pos by ≡ pos q = omega (arith, ints) in
    omega (arith, ints, mul-add_ℤ (pos c) (pos q -ℤ pos by) (pos by), ap (λ z. pos c *ℤ z) back)

pub down-raised : (x : ℤ) (c by s : ℕ) → 0 < c → pos s ≡ x +ℤ pos (by * c) → pos (s / c) ≡ down x (pos c) +ℤ pos by
down-raised x c by s some is =
    let q : ℕ = s / c in
    let shift : pos c *ℤ (pos q -ℤ pos by) ≡ pos (q * c) -ℤ pos (by * c) = shifted q c by in
    let low : (pos q -ℤ pos by) ≤ℤ down x (pos c) = down_greatest x c (pos q -ℤ pos by) some (omega (arith, ints, is, shift, quotient-low s c some)) in
    let high : down x (pos c) <ℤ (pos q -ℤ pos by +ℤ pos 1) =
    lt-from_mul_ℤ c (down x (pos c)) (pos q -ℤ pos by +ℤ pos 1) (omega (arith, ints, is, shift, quotient-high s c some, (down_is_floor x c some).0, mul-add_ℤ (pos c) (pos q -ℤ pos by) (pos 1))) in
    omega (arith, ints, low, high)

pub up-raised : (x : ℤ) (c by s : ℕ) → 0 < c → pos s ≡ x +ℤ pos (by * c) → pos ((s + (c - 1)) / c) ≡ up x (pos c) +ℤ pos by
up-raised x c by s some is =
    let t : ℕ = s + (c - 1) in
    let q : ℕ = t / c in
    let shift : pos c *ℤ (pos q -ℤ pos by) ≡ pos (q * c) -ℤ pos (by * c) = shifted q c by in
    let high : up x (pos c) ≤ℤ (pos q -ℤ pos by) = up_least x c (pos q -ℤ pos by) some (omega (arith, ints, is, shift, quotient-high t c some)) in
    let low : (pos q -ℤ pos by) <ℤ (up x (pos c) +ℤ pos 1) =
    lt-from_mul_ℤ c (pos q -ℤ pos by) (up x (pos c) +ℤ pos 1) (omega (arith, ints, is, shift, quotient-low t c some, (up_is_ceiling x c some).0, mul-add_ℤ (pos c) (up x (pos c)) (pos 1))) in
    omega (arith, ints, low, high)
