-- Members of a set of advices.
use Rattle.std.proofs.Common.{◌≡◌, ℕ, zero, suc, ◌*◌, ◌/◌, ◌^◌, ◌<◌, ◌%◌, ◌==◌, ◌&&◌, ◌||◌, not, true, false, inl, inr, bit_and, bit_or, max, w16, refl, sym, ◌∙◌, ap, arith}
use Rattle.std.specs.Int.{bit_at, bit_not}
use Rattle.std.specs.Int.Bits.{or_zero_l}
use Rattle.std.proofs.Math.Nat.{mod-eq_of_lt}
use Rattle.std.proofs.Math.Pow.{pow-lt}
use Rattle.std.proofs.lemmas.Nat.{le_or_l}
use Rattle.std.proofs.lemmas.Nat.Bits.{bit_at-lt, bit_at-suc, bit_at-zero, bit_at_above, bit_at_and, bit_at_clear_other, bit_at_clear_same, bit_at_or, bit_at-pow_other, bit_at-pow_same, bit_at_set_same, bit_at_set_other, same_from_bits}
use Rattle.std.proofs.lemmas.Bool.{cases_eq, cases_lt}
use Rattle.std.proofs.lemmas.Bool.Decides.{nat_tests}
use Rattle.acas_cells.specs.Sets.{has_no_advisory, holds}
use Rattle.acas_cells.specs.declared.set.AdviceSet.{AdviceSet}

-- a bit that is set
pub one_more : (n k a : ℕ) → k < 16 → (bit_at (bit_or n (1 * 2 ^ k % 65536)) a == 1) ≡ (a == k || bit_at n a == 1)
one_more n k a within = grind (arith, nat_tests, bit_at_set_same w16 n k within, bit_at_set_other w16 n k within a)

-- a number with a bit set above the first is at least 2
not_small : (x k : ℕ) → bit_at x (suc k) ≡ 1 → 0 < x / 2
not_small x k set = grind (arith, set, bit_at-suc x k, bit_at-zero k, ap (λ h. bit_at h k))

-- no bit is set above the first
pub none_but_first : (n k : ℕ) → k < 16 → (bit_or n (1 * 2 ^ k % 65536) / 2 == 0) ≡ (n / 2 == 0 && k == 0)
none_but_first zero zero within = refl
none_but_first (suc zero) zero within = refl
none_but_first (suc (suc n)) zero within = grind (arith, nat_tests, le_or_l (suc (suc n)) 1)
none_but_first n (suc k) within = grind (arith, nat_tests, not_small (bit_or n (1 * 2 ^ suc k % 65536)) k (bit_at_set_same w16 n (suc k) within))

-- a bit that is cleared
pub one_less : (n k a : ℕ) → n < 65536 → k < 16 → (bit_at (bit_and n (bit_not w16 (1 * 2 ^ k % 65536))) a == 1) ≡ (not (a == k) && bit_at n a == 1)
one_less n k a small within =
    elim (cases_lt a 16) [
      | inl below ↦ elim (cases_eq a k) [
        | inl same ↦ grind (arith, nat_tests, same, bit_at_clear_same w16 n k within)
        | inr other ↦ grind (arith, nat_tests, bit_at_clear_other w16 n k within a below other)
      ]
      | inr above ↦ grind (arith, nat_tests, bit_at_and n (bit_not w16 (1 * 2 ^ k % 65536)) a, bit_at_above n 16 a small above)
    ]

-- a power that fits
power_small : (k : ℕ) → k < 16 → 1 * 2 ^ k % 65536 ≡ 2 ^ k
power_small k within =
    let below : 2 ^ k < 65536 = pow-lt within in
    let one : 1 * 2 ^ k ≡ 2 ^ k = omega arith in
    ap (λ (x : ℕ). x % 65536) one ∙ mod-eq_of_lt below

-- a bit that alone may be set
pub one_alone : (n k a : ℕ) → k < 16 → (bit_at (bit_and n (1 * 2 ^ k % 65536)) a == 1) ≡ (a == k && bit_at n a == 1)
one_alone n k a within =
    let is : 1 * 2 ^ k % 65536 ≡ 2 ^ k = power_small k within in
    elim (cases_eq a k) [
      | inl same ↦ grind (arith, nat_tests, same, is, bit_at_and n (2 ^ k) k, bit_at-pow_same k, bit_at-lt n k)
      | inr other ↦ grind (arith, nat_tests, is, bit_at_and n (2 ^ k) a, bit_at-pow_other k a other)
    ]

-- a bit that is set in one of two numbers
pub either_bit : (n k a : ℕ) → (bit_at (bit_or n k) a == 1) ≡ (bit_at n a == 1 || bit_at k a == 1)
either_bit n k a = grind (arith, nat_tests, bit_at_or n k a, bit_at-lt n a, bit_at-lt k a)

-- the bits above the first, of two numbers
upper_bits : (n k : ℕ) → bit_or n k / 2 ≡ bit_or (n / 2) (k / 2)
upper_bits n k = same_from_bits _ _ (λ i.
    sym (bit_at-suc (bit_or n k) i) ∙ bit_at_or n k (suc i) ∙ ap (λ x. max x (bit_at k (suc i))) (bit_at-suc n i)
    ∙ ap (λ y. max (bit_at (n / 2) i) y) (bit_at-suc k i) ∙ sym (bit_at_or (n / 2) (k / 2) i))

none_in_either : (x y : ℕ) → (bit_or x y == 0) ≡ (x == 0 && y == 0)
none_in_either zero y = grind (arith, nat_tests, or_zero_l y)
none_in_either (suc x) y = grind (arith, nat_tests, le_or_l (suc x) y)

-- no bit is set above the first in one of two numbers
pub none_above_first : (n k : ℕ) → (bit_or n k / 2 == 0) ≡ (n / 2 == 0 && k / 2 == 0)
none_above_first n k = ap (λ x. x == 0) (upper_bits n k) ∙ none_in_either (n / 2) (k / 2)

-- ---- sets with no advice but clear of conflict

unset : (x : ℕ) → x < 2 → (x == 1) ≡ false → x ≡ 0
unset x few not_one = grind (arith, nat_tests)

is_zero : (x : ℕ) → x ≡ 0 → (x == 0) ≡ true
is_zero x e = grind (arith, nat_tests)

-- a set in which there is no other has none
pub no_advisory_from : (s : AdviceSet) → ((a : ℕ) → 0 < a → holds s a ≡ false) → has_no_advisory s ≡ true
no_advisory_from s none =
    is_zero (s.bits / 2) (same_from_bits (s.bits / 2) 0 (λ i.
    sym (bit_at-suc s.bits i) ∙ unset (bit_at s.bits (suc i)) (bit_at-lt s.bits (suc i)) (none (suc i) (omega arith)) ∙ sym (bit_at-zero i)))

-- and the other way round
pub none_from_no_advisory : (s : AdviceSet) → has_no_advisory s ≡ true → (a : ℕ) → 0 < a → holds s a ≡ false
none_from_no_advisory s clear zero some = absurd (omega (arith, some))
none_from_no_advisory s clear (suc k) some =
    let upper : s.bits / 2 ≡ 0 = grind (arith, nat_tests, clear) in
    let bit : bit_at s.bits (suc k) ≡ 0 = bit_at-suc s.bits k ∙ ap (λ h. bit_at h k) upper ∙ bit_at-zero k in
    ap (λ x. x == 1) bit
