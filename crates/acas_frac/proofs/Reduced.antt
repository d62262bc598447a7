-- For each value one fraction in lowest terms, and no other.
use Rattle.std.proofs.Common.{◌≡◌, ℕ, zero, suc, ◌/◌, ◌%◌, ◌<◌, ◌≤◌, ⊎_elim, sym, ap, ◌∙◌, arith, ℤ, pos, negsuc, ◌*ℤ◌, ◌≤ℤ◌, Bool, true, false, mod-lt, le_refl}
use Rattle.std.specs.Int.{IsGcd}
use Rattle.std.proofs.lemmas.Int.{ints}
use Rattle.std.proofs.lemmas.Bool.{cases_lt}
use Rattle.std.proofs.lemmas.Nat.Gcd.{IsGcd-from_zero, IsGcd-from_mod}
use Rattle.std.proofs.Math.Nat.{div-mul_cancel}
use Rattle.acas_frac.proofs.SignedProducts.{mul_assoc_ℤ, mul_comm_ℤ, le-from_mul_ℤ, mul-le_ℤ}
use Rattle.acas_frac.proofs.Lowest.{divisor_positive, positive_part, IsGcd-parts, across, abs_signed, cross_signed, cancelled_den, IsReduced-same, IsReduced-den_at_most}
use Rattle.acas_frac.specs.Fraction.{Fraction, IsReduced, Same, signed}

-- ---- a greatest common divisor, by remainders

gcd_by : (steps a b : ℕ) → b ≤ steps → (g : ℕ) × IsGcd a b g
gcd_by zero a b l = (a, IsGcd-from_zero a b (omega arith))
gcd_by (suc steps) a b l = ⊎_elim
    (λ (p : 0 < b). let small = mod-lt a p in let r = gcd_by steps b (a % b) (omega arith) in (r.0, IsGcd-from_mod a b r.0 r.1))
    (λ (p : b ≤ 0). (a, IsGcd-from_zero a b (omega arith)))
    (cases_lt 0 b)

pub some_gcd : (a b : ℕ) → (g : ℕ) × IsGcd a b g
some_gcd a b = gcd_by b a b (le_refl b)

-- ---- the fraction in lowest terms of a value

-- a fraction in lowest terms that is num over den
pub record HasReduced (num : ℤ) (den : ℕ) : Type 0 where
  pub fraction : Fraction
  pub reduced : IsReduced fraction
  pub same : fraction.num *ℤ pos den ≡ num *ℤ pos fraction.den
  pub den_at_most : fraction.den ≤ den

-- a number over a denominator above 0 that is at least 0 has a numerator that is
pub num_ahead : (f : Fraction) (num : ℤ) (den : ℕ) → 0 < den → f.num *ℤ pos den ≡ num *ℤ pos f.den → pos 0 ≤ℤ num → pos 0 ≤ℤ f.num
num_ahead f num den p e h =
    let over : (pos f.den *ℤ pos 0) ≤ℤ (pos f.den *ℤ num) = mul-le_ℤ f.den (pos 0) num h in
    le-from_mul_ℤ den (pos 0) f.num p (turned _ _ over (mul_comm_ℤ (pos den) f.num ∙ e ∙ mul_comm_ℤ num (pos f.den)))
  where
    turned : (a b : ℤ) → (pos f.den *ℤ pos 0) ≤ℤ a → b ≡ a → (pos den *ℤ pos 0) ≤ℤ b
    turned a b l i = omega (arith, ints)

reduced_signed : (negative : Bool) (n den : ℕ) → 0 < den → HasReduced (signed negative n) den
reduced_signed negative n den some = by (some_gcd n den)
  where
    by : (g : ℕ) × IsGcd n den g → HasReduced (signed negative n) den
    by (g, h) =
        let some_g = divisor_positive g den some h.1 in
        let whole_n = div-mul_cancel g h.0 in
        let whole_d = div-mul_cancel g h.1 in
        let f : Fraction = record { num = signed negative (n / g); den = den / g } in
        let reduced : IsReduced f = record { some = positive_part n den g h some; lowest = rw (abs_signed negative (n / g)) (IsGcd-parts n den g (n / g) (den / g) h some_g whole_n whole_d) } in
        let same = cross_signed negative (n / g) n den (den / g) (across (n / g) (den / g) g n den whole_n whole_d) in
        record { fraction = f; reduced = reduced; same = same; den_at_most = IsReduced-den_at_most f (signed negative n) den reduced some same }

pub some_reduced : (num : ℤ) (den : ℕ) → 0 < den → HasReduced num den
some_reduced (pos n) den some = reduced_signed false n den some
some_reduced (negsuc n) den some = reduced_signed true (suc n) den some

-- ---- one fraction in lowest terms over a denominator

-- two fractions that are m over n have the same value
pub over-Same : (n : ℕ) (m : ℤ) (f g : Fraction) → 0 < n → m *ℤ pos f.den ≡ f.num *ℤ pos n → m *ℤ pos g.den ≡ g.num *ℤ pos n → Same f g
over-Same n m f g p h k = cancelled_den n (f.num *ℤ pos g.den) (g.num *ℤ pos f.den) p
    (swap f.num (pos g.den) (pos n) ∙ ap (λ z. z *ℤ pos g.den) (sym h) ∙ swap m (pos f.den) (pos g.den) ∙ ap (λ z. z *ℤ pos f.den) k ∙ sym (swap g.num (pos f.den) (pos n)))
  where
    swap : (a b c : ℤ) → (a *ℤ b) *ℤ c ≡ (a *ℤ c) *ℤ b
    swap a b c = mul_assoc_ℤ a b c ∙ ap (λ z. a *ℤ z) (mul_comm_ℤ b c) ∙ sym (mul_assoc_ℤ a c b)

pub over-IsReduced-same : (n : ℕ) (m : ℤ) (f g : Fraction) → 0 < n → IsReduced f → IsReduced g → m *ℤ pos f.den ≡ f.num *ℤ pos n → m *ℤ pos g.den ≡ g.num *ℤ pos n → f ≡ g
over-IsReduced-same n m f g p h k e i = IsReduced-same f g h k (over-Same n m f g p e i)
