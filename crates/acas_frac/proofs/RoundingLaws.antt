-- Rounded quotients: how far they are from the exact one, and that they are the greatest and the least.
use Rattle.std.proofs.Common.{◌≤◌, unsigned_abs, ◌≡◌, ℕ, ◌*◌, ◌<◌, ℤ, pos, negsuc, ◌+ℤ◌, ◌*ℤ◌, neg_ℤ, ◌≤ℤ◌, ◌<ℤ◌, ⊎_elim, subst, sym, arith}
use Rattle.std.proofs.lemmas.Int.{ints}
use Rattle.std.proofs.Math.Nat.{mul-pos}
use Rattle.acas_frac.specs.Rounding.{IsRounding, down, up}
use Rattle.acas_frac.proofs.SignedProducts.{mul-add_ℤ, mul-neg_ℤ, mul_assoc_ℤ, mul-le_ℤ, le-from_mul_ℤ, lt-from_mul_ℤ}

-- m is a / c rounded down
abbrev pub IsFloor : ℤ → ℕ → ℤ → Type 0
IsFloor a c m = ((pos c *ℤ m) ≤ℤ a) × (a <ℤ (pos c *ℤ m +ℤ pos c))

pub down_is_floor : (a : ℤ) (c : ℕ) → 0 < c → IsFloor a c (down a (pos c))
down_is_floor (pos a) c p = omega (arith, ints)
down_is_floor (negsuc a) c p = omega (arith, ints)

-- m is a / c rounded up
abbrev pub IsCeiling : ℤ → ℕ → ℤ → Type 0
IsCeiling a c m = (a ≤ℤ (pos c *ℤ m)) × ((pos c *ℤ m) <ℤ (a +ℤ pos c))

pub up_is_ceiling : (a : ℤ) (c : ℕ) → 0 < c → IsCeiling a c (up a (pos c))
up_is_ceiling a c p = let h = down_is_floor (neg_ℤ a) c p in omega (arith, ints, h.0, h.1, mul-neg_ℤ (pos c) (down (neg_ℤ a) (pos c)))

-- whatever is at most a, times c, is at most the floor
pub down_greatest : (a : ℤ) (c : ℕ) (m : ℤ) → 0 < c → (pos c *ℤ m) ≤ℤ a → m ≤ℤ down a (pos c)
down_greatest a c m p h =
    let k : m <ℤ (down a (pos c) +ℤ pos 1) = lt-from_mul_ℤ c m (down a (pos c) +ℤ pos 1) (omega (arith, ints, (down_is_floor a c p).1, mul-add_ℤ (pos c) (down a (pos c)) (pos 1))) in
    omega (arith, ints)

pub up_least : (a : ℤ) (c : ℕ) (m : ℤ) → 0 < c → a ≤ℤ (pos c *ℤ m) → up a (pos c) ≤ℤ m
up_least a c m p h =
    let k : up a (pos c) <ℤ (m +ℤ pos 1) = lt-from_mul_ℤ c (up a (pos c)) (m +ℤ pos 1) (omega (arith, ints, (up_is_ceiling a c p).1, mul-add_ℤ (pos c) m (pos 1))) in
    omega (arith, ints)

-- rounding the one up and the other down adds at most 1
pub up-le-down : (a b d : ℤ) (c : ℕ) → 0 < c → a ≤ℤ (b +ℤ pos c *ℤ d) → up a (pos c) ≤ℤ (down b (pos c) +ℤ d +ℤ pos 1)
up-le-down a b d c p h =
    up_least a c (down b (pos c) +ℤ d +ℤ pos 1) p
    (omega (arith, ints, (down_is_floor b c p).1, mul-add_ℤ (pos c) (down b (pos c) +ℤ d) (pos 1), mul-add_ℤ (pos c) (down b (pos c)) d))

-- a common factor of both sides of a quotient is left out
pub up-mul_both : (n c : ℕ) (a : ℤ) → 0 < n → 0 < c → up (pos n *ℤ a) (pos n *ℤ pos c) ≡ up a (pos c)
up-mul_both n c a p q =
    let whole : ℤ = up (pos n *ℤ a) (pos (n * c)) in
    let part : ℤ = up a (pos c) in
    let least : whole ≤ℤ part = up_least (pos n *ℤ a) (n * c) part (mul-pos p q) (omega (arith, ints, mul-le_ℤ n a (pos c *ℤ part) (up_is_ceiling a c q).0, mul_assoc_ℤ (pos n) (pos c) part)) in
    let most : part ≤ℤ whole = up_least a c whole q (le-from_mul_ℤ n a (pos c *ℤ whole) p (omega (arith, ints, (up_is_ceiling (pos n *ℤ a) (n * c) (mul-pos p q)).0, mul_assoc_ℤ (pos n) (pos c) whole))) in
    omega (arith, ints)

pub down-mul_both : (n c : ℕ) (a : ℤ) → 0 < n → 0 < c → down (pos n *ℤ a) (pos n *ℤ pos c) ≡ down a (pos c)
down-mul_both n c a p q =
    let whole : ℤ = down (pos n *ℤ a) (pos (n * c)) in
    let part : ℤ = down a (pos c) in
    let most : part ≤ℤ whole = down_greatest (pos n *ℤ a) (n * c) part (mul-pos p q) (omega (arith, ints, mul-le_ℤ n (pos c *ℤ part) a (down_is_floor a c q).0, mul_assoc_ℤ (pos n) (pos c) part)) in
    let least : whole ≤ℤ part = down_greatest a c whole q (le-from_mul_ℤ n (pos c *ℤ whole) a p (omega (arith, ints, (down_is_floor (pos n *ℤ a) (n * c) (mul-pos p q)).0, mul_assoc_ℤ (pos n) (pos c) whole))) in
    omega (arith, ints)

-- a quotient of a number of size at most c * b is of size at most b
pub down_bounded : (a : ℤ) (c b : ℕ) → 0 < c → unsigned_abs a ≤ c * b → unsigned_abs (down a (pos c)) ≤ b
down_bounded a c b p h =
    let m : ℤ = down a (pos c) in
    let most : m ≤ℤ pos b = le-from_mul_ℤ c m (pos b) p (omega (arith, ints, (down_is_floor a c p).0)) in
    let least : neg_ℤ (pos b) ≤ℤ m = down_greatest a c (neg_ℤ (pos b)) p (omega (arith, ints, mul-neg_ℤ (pos c) (pos b))) in
    omega (arith, ints)

-- ---- either way to round

-- what holds of both holds of each way to round
pub either : (P : (ℤ → ℤ → ℤ) → Type 0) → P down → P up → (round : ℤ → ℤ → ℤ) → IsRounding round → P round
either P d u round way = ⊎_elim (λ (e : round ≡ down). subst P (sym e) d) (λ (e : round ≡ up). subst P (sym e) u) way

pub round-mul_both : (round : ℤ → ℤ → ℤ) → IsRounding round → (n c : ℕ) (a : ℤ) → 0 < n → 0 < c → round (pos n *ℤ a) (pos n *ℤ pos c) ≡ round a (pos c)
round-mul_both = either (λ round. (n c : ℕ) (a : ℤ) → 0 < n → 0 < c → round (pos n *ℤ a) (pos n *ℤ pos c) ≡ round a (pos c)) down-mul_both up-mul_both
