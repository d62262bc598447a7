-- A rounded quotient by other numbers in the same ratio, and its size.
use Rattle.std.proofs.Common.{◌≡◌, ℕ, ◌-◌, ◌^◌, ◌<◌, ℤ, pos, neg_ℤ, ◌*ℤ◌, ◌≤ℤ◌, ◌<ℤ◌, unsigned_abs, w64, ap, sym, subst, ◌∙◌, arith}
use Rattle.std.proofs.lemmas.Int.{ints}
use Rattle.acas_frac.specs.Rounding.{IsRounding, down, up}
use Rattle.acas_frac.proofs.RoundingLaws.{down_greatest, down_is_floor, either, round-mul_both, up_is_ceiling, up_least}
use Rattle.acas_frac.proofs.SignedProducts.{le-from_mul_ℤ, mul_comm_ℤ}
use mir.Val.{SFits}

size_of : (total : ℤ) → pos 0 <ℤ total → total ≡ pos (unsigned_abs total)
size_of total h = omega (arith, ints)

pub quotient_is : (round : ℤ → ℤ → ℤ) → IsRounding round → (c : ℕ) (total a b : ℤ) → 0 < c → pos 0 <ℤ total → pos c *ℤ a ≡ total *ℤ b → round a total ≡ round b (pos c)
quotient_is round way c total a b p q h =
    let t : ℕ = unsigned_abs total in
    let e : total ≡ pos t = size_of total q in
    let r : 0 < t = omega (arith, ints) in
    ap (λ z. round a z) e
    ∙ sym (round-mul_both round way c t a p r)
    ∙ ap (λ z. round z (pos c *ℤ pos t)) (h ∙ ap (λ z. z *ℤ b) e)
    ∙ ap (λ z. round (pos t *ℤ b) z) (mul_comm_ℤ (pos c) (pos t))
    ∙ round-mul_both round way t c b r p

-- ---- the size of a quotient

down-le : (a b : ℤ) (c : ℕ) → 0 < c → a ≤ℤ (pos c *ℤ b) → down a (pos c) ≤ℤ b
down-le a b c some h = le-from_mul_ℤ c (down a (pos c)) b some (omega (arith, ints, h, (down_is_floor a c some).0))

le-up : (a b : ℤ) (c : ℕ) → 0 < c → (pos c *ℤ b) ≤ℤ a → b ≤ℤ up a (pos c)
le-up a b c some h = le-from_mul_ℤ c b (up a (pos c)) some (omega (arith, ints, h, (up_is_ceiling a c some).0))

-- what is at most a multiple of the total has a quotient of at most that, and the same from below
round-le : (round : ℤ → ℤ → ℤ) → IsRounding round → (a b : ℤ) (c : ℕ) → 0 < c → a ≤ℤ (pos c *ℤ b) → round a (pos c) ≤ℤ b
round-le round way a b c some h = either (λ way. way a (pos c) ≤ℤ b) (down-le a b c some h) (up_least a c b some h) round way

le-round : (round : ℤ → ℤ → ℤ) → IsRounding round → (a b : ℤ) (c : ℕ) → 0 < c → (pos c *ℤ b) ≤ℤ a → b ≤ℤ round a (pos c)
le-round round way a b c some h = either (λ way. b ≤ℤ way a (pos c)) (down_greatest a c b some h) (le-up a b c some h) round way

-- a quotient of a weighted sum of values of 64 bits by the whole weight fits 64 bits
pub quotient_fits : (round : ℤ → ℤ → ℤ) → IsRounding round → (total sum : ℤ) → pos 0 <ℤ total → sum ≤ℤ (pos (2 ^ 63 - 1) *ℤ total) → (neg_ℤ (pos (2 ^ 63)) *ℤ total) ≤ℤ sum → SFits w64 (round sum total)
quotient_fits round way total sum q high low =
    let t : ℕ = unsigned_abs total in
    let e : total ≡ pos t = size_of total q in
    let some : 0 < t = omega (arith, ints) in
    let most : round sum (pos t) ≤ℤ pos (2 ^ 63 - 1) = round-le round way sum (pos (2 ^ 63 - 1)) t some (omega (arith, ints, high, e, mul_comm_ℤ (pos t) (pos (2 ^ 63 - 1)))) in
    let least : neg_ℤ (pos (2 ^ 63)) ≤ℤ round sum (pos t) = le-round round way sum (neg_ℤ (pos (2 ^ 63))) t some (omega (arith, ints, low, e, mul_comm_ℤ (pos t) (neg_ℤ (pos (2 ^ 63))))) in
    subst (λ z. SFits w64 (round sum z)) (sym e) (omega (arith, ints, most, least))
