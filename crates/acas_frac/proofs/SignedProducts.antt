-- Products of signed numbers. A signed z is read as `up z - down z`; a law that multiplies hands `omega` the products.
use Rattle.std.proofs.Common.{◌≡◌, ℕ, ◌*◌, ◌<◌, ℤ, pos, ◌+ℤ◌, ◌*ℤ◌, neg_ℤ, ◌≤ℤ◌, ◌<ℤ◌, ap, ◌∙◌, arith}
use Rattle.std.proofs.lemmas.Int.{ints, by_lt_z}
use Rattle.std.proofs.Math.Nat.{mul-le-mul_left, mul-lt-mul_of_pos_left}
use borrow.Author.Differences.{up, down, sum_is_lem, product_is, le_out, lt_out, neg_is}

pub mul-add_ℤ : (a b c : ℤ) → a *ℤ (b +ℤ c) ≡ a *ℤ b +ℤ a *ℤ c
mul-add_ℤ a b c = omega (arith, ints, ap (λ n. up a * n) (sum_is_lem b c), ap (λ n. down a * n) (sum_is_lem b c))

pub add-mul_ℤ : (a b c : ℤ) → (a +ℤ b) *ℤ c ≡ a *ℤ c +ℤ b *ℤ c
add-mul_ℤ a b c = omega (arith, ints, ap (λ n. n * up c) (sum_is_lem a b), ap (λ n. n * down c) (sum_is_lem a b))

pub mul_assoc_ℤ : (a b c : ℤ) → (a *ℤ b) *ℤ c ≡ a *ℤ (b *ℤ c)
mul_assoc_ℤ a b c =
    let p = product_is a b in
    let q = product_is b c in
    omega (arith, ints, ap (λ n. n * up c) p.0, ap (λ n. n * up c) p.1, ap (λ n. n * down c) p.0, ap (λ n. n * down c) p.1, ap (λ n. up a * n) q.0, ap (λ n. up a * n) q.1, ap (λ n. down a * n) q.0, ap (λ n. down a * n) q.1)

pub mul_comm_ℤ : (a b : ℤ) → a *ℤ b ≡ b *ℤ a
mul_comm_ℤ a b = omega (arith, ints)

-- a product with a number that is not negative keeps the order
pub mul-le_ℤ : (n : ℕ) (a b : ℤ) → a ≤ℤ b → (pos n *ℤ a) ≤ℤ (pos n *ℤ b)
mul-le_ℤ n a b h = omega (arith, ints, mul-le-mul_left n (le_out a b h))

pub mul-lt_ℤ : (n : ℕ) (a b : ℤ) → 0 < n → a <ℤ b → (pos n *ℤ a) <ℤ (pos n *ℤ b)
mul-lt_ℤ n a b p h = omega (arith, ints, mul-lt-mul_of_pos_left (lt_out a b h) p)

pub le-trans_ℤ : (a b c : ℤ) → a ≤ℤ b → b ≤ℤ c → a ≤ℤ c
le-trans_ℤ a b c h k = omega (arith, ints)

-- a common factor above 0 is left out
pub le-from_mul_ℤ : (n : ℕ) (a b : ℤ) → 0 < n → (pos n *ℤ a) ≤ℤ (pos n *ℤ b) → a ≤ℤ b
le-from_mul_ℤ n a b p h = by_lt_z b a (λ k. absurd (omega (arith, ints, mul-lt-mul_of_pos_left (lt_out b a k) p))) (λ k. k)

pub lt-from_mul_ℤ : (n : ℕ) (a b : ℤ) → (pos n *ℤ a) <ℤ (pos n *ℤ b) → a <ℤ b
lt-from_mul_ℤ n a b h = by_lt_z a b (λ k. k) (λ k. absurd (omega (arith, ints, mul-le-mul_left n (le_out b a k))))

pub mul-neg_ℤ : (a b : ℤ) → a *ℤ neg_ℤ b ≡ neg_ℤ (a *ℤ b)
mul-neg_ℤ a b =
    let e = neg_is b in
    omega (arith, ints, ap (λ n. up a * n) e.0, ap (λ n. up a * n) e.1, ap (λ n. down a * n) e.0, ap (λ n. down a * n) e.1)

pub neg-mul_ℤ : (a b : ℤ) → neg_ℤ a *ℤ b ≡ neg_ℤ (a *ℤ b)
neg-mul_ℤ a b = mul_comm_ℤ (neg_ℤ a) b ∙ mul-neg_ℤ b a ∙ ap neg_ℤ (mul_comm_ℤ b a)
