-- Lowest terms.
use Rattle.std.proofs.Common.{◌≡◌, ℕ, zero, suc, ◌+◌, ◌-◌, ◌*◌, ◌/◌, ◌%◌, ◌<◌, ◌≤◌, ⊎_elim, refl, sym, ap, ◌∙◌, subst, arith, pos, ◌*ℤ◌, neg_ℤ, ℤ, unsigned_abs, ◌^◌, Bool, true, false, le_of_mul-le-mul_right, one-mul, div-add-mod', le_refl, mul-le-mul_left, mul-le-mul_right, mod-lt}
use Rattle.std.specs.Int.{IsGcd, ◌∣◌}
use Rattle.std.proofs.lemmas.Int.{ints, unsigned_abs-mul}
use Rattle.std.proofs.lemmas.Nat.Gcd.{IsGcd-from_zero, same_from_IsGcd, dvd_antisymm, le_of_dvd}
use Rattle.std.proofs.Math.Nat.{div-mul_cancel, mul-dvd-mul_right, dvd_of_mul-dvd-mul_right, eq-zero_of_zero-dvd, dvd-mul_left, dvd-mod_iff, dvd-sub, dvd-mul_left_of_dvd, dvd-mul_right, eq_of_mul-eq-mul_right}
use Rattle.std.proofs.lemmas.Bool.{cases_lt}
use Rattle.acas_frac.proofs.SignedProducts.{le-from_mul_ℤ, mul_comm_ℤ, neg-mul_ℤ}
use Rattle.acas_frac.specs.Fraction.{Fraction, IsFrac, IsReduced, ReducesWithinBounds, Same, signed}

-- a divisor of a number above 0 is above 0
pub divisor_positive : (g n : ℕ) → 0 < n → g ∣ n → 0 < g
divisor_positive g n p d = ⊎_elim (λ (l : 0 < g). l) (λ (l : g ≤ 0). absurd (none (omega arith))) (cases_lt 0 g)
  where
    none : g ≡ 0 → ⊥
    none e = let z = eq-zero_of_zero-dvd (subst (λ (k : ℕ). k ∣ n) e d) in omega arith

pub positive_part : (num den g : ℕ) → IsGcd num den g → 0 < den → 0 < den / g
positive_part num den g h some = ⊎_elim (λ (l : 0 < den / g). l) (λ (l : den / g ≤ 0). absurd (no (omega arith))) (cases_lt 0 (den / g))
  where
    no : den / g ≡ 0 → ⊥
    no z = let e : 0 * g ≡ den = rw z at (div-mul_cancel g h.1) in omega arith

-- the parts of two numbers by their greatest common divisor have 1 as theirs
pub IsGcd-parts : (a b g n d : ℕ) → IsGcd a b g → 0 < g → n * g ≡ a → d * g ≡ b → IsGcd n d 1
IsGcd-parts a b g n d h p e f = (every n, every d, λ k i j. last k i j)
  where
    every : (m : ℕ) → 1 ∣ m
    every m = ∣ (m, sym (one-mul m)) ∣₁

    last : (k : ℕ) → k ∣ n → k ∣ d → k ∣ 1
    last k i j =
        let left : (k * g) ∣ a = rw (← e) (mul-dvd-mul_right k i g) in
        let right : (k * g) ∣ b = rw (← f) (mul-dvd-mul_right k j g) in
        let whole : (k * g) ∣ (1 * g) = subst (λ (m : ℕ). (k * g) ∣ m) (sym (one-mul g)) (h.2 (k * g) left right) in
        dvd_of_mul-dvd-mul_right k p whole

pub across : (n d g num den : ℕ) → n * g ≡ num → d * g ≡ den → n * den ≡ num * d
across n d g num den e f = rw (← e, ← f) (omega arith)

-- A numerator and a denominator, divided by their greatest common divisor.
module _ (num den g : ℕ) (h : IsGcd num den g) (some : 0 < den) (within : ReducesWithinBounds num den) where
  positive : 0 < g
  positive = divisor_positive g den some h.1

  num_whole : num / g * g ≡ num
  num_whole = div-mul_cancel g h.0

  den_whole : den / g * g ≡ den
  den_whole = div-mul_cancel g h.1

  pub num_small : num / g ≤ 10 ^ 24
  num_small = le_of_mul-le-mul_right (rw num_whole (within.parts g h).0) positive

  pub den_small : den / g ≤ 10 ^ 13
  den_small = le_of_mul-le-mul_right (rw den_whole (within.parts g h).1) positive

  pub den_some : 0 < den / g
  den_some = ⊎_elim (λ (l : 0 < den / g). l) (λ (l : den / g ≤ 0). let z : den / g ≡ 0 = omega arith in absurd (no z)) (cases_lt 0 (den / g))
    where
      no : den / g ≡ 0 → ⊥
      no z = let e : 0 * g ≡ den = rw z at den_whole in omega arith

  pub lowest : IsGcd (num / g) (den / g) 1
  lowest = IsGcd-parts num den g (num / g) (den / g) h positive num_whole den_whole

  -- the same value, with either sign
  pub cross : num / g * den ≡ num * (den / g)
  cross = across (num / g) (den / g) g num den num_whole den_whole

pub abs_signed : (negative : Bool) (n : ℕ) → unsigned_abs (signed negative n) ≡ n
abs_signed true n = omega (arith, ints)
abs_signed false n = refl

pub cross_signed : (negative : Bool) (m n a b : ℕ) → m * a ≡ n * b → signed negative m *ℤ pos a ≡ signed negative n *ℤ pos b
cross_signed true m n a b e = neg-mul_ℤ (pos m) (pos a) ∙ ap (λ k. neg_ℤ (pos k)) e ∙ sym (neg-mul_ℤ (pos n) (pos b))
cross_signed false m n a b e = ap pos e

pub reduced-IsFrac : (negative : Bool) (num den g : ℕ) → IsGcd num den g → 0 < den → ReducesWithinBounds num den → IsFrac (record { num = signed negative (num / g); den = den / g })
reduced-IsFrac negative num den g h s w = record {
  some = den_some num den g h s w;
  den_small = den_small num den g h s w;
  num_small = rw (abs_signed negative (num / g)) (num_small num den g h s w);
  lowest = rw (abs_signed negative (num / g)) (lowest num den g h s w);
}

pub reduced-Same : (negative : Bool) (num den g : ℕ) → IsGcd num den g → 0 < den → ReducesWithinBounds num den → Same (record { num = signed negative (num / g); den = den / g }) (record { num = signed negative num; den = den })
reduced-Same negative num den g h s w = cross_signed negative (num / g) num den (den / g) (cross num den g h s w)

-- what is small before it is reduced is small after
pub small_reduces : (num den : ℕ) → 0 < den → num ≤ 10 ^ 24 → den ≤ 10 ^ 13 → ReducesWithinBounds num den
small_reduces num den p n d = record { parts = λ g h. let q = divisor_positive g den p h.1 in (omega arith, omega arith) }

-- ---- Euclid's lemma

remainder : (q r a b c : ℕ) → (q * b + r) * c ≡ a * c → a * c - q * (b * c) ≡ r * c
remainder q r a b c e = omega arith

IsGcd-mod : (a b g : ℕ) → IsGcd a b g → IsGcd b (a % b) g
IsGcd-mod a b g h = (h.1, (dvd-mod_iff g h.1).1 h.0, λ d p q. h.2 d ((dvd-mod_iff d p).0 q) p)

-- a common divisor of a*c and b*c divides g*c, for the greatest common divisor g of a and b
common : (steps a b g c d : ℕ) → b ≤ steps → IsGcd a b g → d ∣ (a * c) → d ∣ (b * c) → d ∣ (g * c)
common zero a b g c d l h i j =
    let none : b ≡ 0 = omega arith in
    let whole : a ≡ g = same_from_IsGcd a b a g (IsGcd-from_zero a b none) h in
    subst (λ (m : ℕ). d ∣ (m * c)) whole i
common (suc steps) a b g c d l h i j =
    ⊎_elim
    (λ (p : 0 < b).
    let small = mod-lt a p in
    common steps b (a % b) g c d (omega arith) (IsGcd-mod a b g h) j (rest p))
    (λ (p : b ≤ 0).
    let none : b ≡ 0 = omega arith in
    let whole : a ≡ g = same_from_IsGcd a b a g (IsGcd-from_zero a b none) h in
    subst (λ (m : ℕ). d ∣ (m * c)) whole i)
    (cases_lt 0 b)
  where
    rest : 0 < b → d ∣ (a % b * c)
    rest p =
        let split = ap (λ n. n * c) (div-add-mod' a b) in
        let left : a * c - (a / b) * (b * c) ≡ a % b * c = remainder (a / b) (a % b) a b c split in
        subst (λ (m : ℕ). d ∣ m) left (dvd-sub d i (dvd-mul_left_of_dvd d j (a / b)))

pub divides_other : (a b c : ℕ) → IsGcd a b 1 → b ∣ (a * c) → b ∣ c
divides_other a b c h d = subst (λ (m : ℕ). b ∣ m) (one-mul c) (common b a b 1 c b (le_refl b) h d (dvd-mul_right b c))

-- ---- a fraction over a small denominator reduces to a small one

smaller : (n d m k : ℕ) → 0 < m → n * m ≡ k → n ≤ k
smaller n d m k p e = let h = mul-le-mul_left n p in omega arith

pub within_parts : (n d g k m : ℕ) → 0 < d → 0 < m → n * m ≡ k * d → IsGcd n d 1 → (n ≤ k) × (d ≤ m)
within_parts n d g k m p q e h =
    let over : d ∣ (n * m) = subst (λ (z : ℕ). d ∣ z) (sym e) (dvd-mul_left d k) in
    let small : d ≤ m = le_of_dvd q (divides_other n d m h over) in
    (le_of_mul-le-mul_right {m = n} {n = k} (bound small) p, small)
  where
    bound : d ≤ m → n * d ≤ k * d
    bound l = omega (arith, mul-le-mul_left n l)

-- num/den is k/m
pub ReducesWithinBounds-over : (num den k m : ℕ) → 0 < den → 0 < m → num * m ≡ k * den → k ≤ 10 ^ 24 → m ≤ 10 ^ 13 → ReducesWithinBounds num den
ReducesWithinBounds-over num den k m p q e small narrow = record { parts = λ g h. by g h }
  where
    cancelled : (n d g : ℕ) → 0 < g → (n * g) * m ≡ k * (d * g) → n * m ≡ k * d
    cancelled n d g s f = eq_of_mul-eq-mul_right g s (n * m) (k * d) (omega arith)

    by : (g : ℕ) → IsGcd num den g → (num ≤ 10 ^ 24 * g) × (den ≤ 10 ^ 13 * g)
    by g h =
        let some = divisor_positive g den p h.1 in
        let n = div-mul_cancel g h.0 in
        let d = div-mul_cancel g h.1 in
        let whole : (num / g * g) * m ≡ k * (den / g * g) = rw (n, d) e in
        let parts = within_parts (num / g) (den / g) g k m (positive_part num den g h p) q (cancelled (num / g) (den / g) g some whole) (IsGcd-parts num den g (num / g) (den / g) h some n d) in
        let up = mul-le-mul_right g parts.0 in
        let down = mul-le-mul_right g parts.1 in
        let up' = rw n at up in
        let down' = rw d at down in
        (omega (arith, mul-le-mul_right g small), omega (arith, mul-le-mul_right g narrow))

-- ---- two fractions in lowest terms that have the same value are the same

pub same_lowest : (n d k m : ℕ) → 0 < d → 0 < m → IsGcd n d 1 → IsGcd k m 1 → n * m ≡ k * d → (n ≡ k) × (d ≡ m)
same_lowest n d k m p q h i e =
    let over : d ∣ (n * m) = subst (λ (z : ℕ). d ∣ z) (sym e) (dvd-mul_left d k) in
    let under : m ∣ (k * d) = subst (λ (z : ℕ). m ∣ z) e (dvd-mul_left m n) in
    let dens : d ≡ m = dvd_antisymm (divides_other n d m h over) (divides_other k m d i under) in
    (eq_of_mul-eq-mul_right d p n k (ap (λ z. n * z) dens ∙ e), dens)

same_fraction : (n k : ℤ) (d m : ℕ) → n ≡ k → d ≡ m → ◌≡◌ {A = Fraction} (record { num = n; den = d }) (record { num = k; den = m })
same_fraction n k d m p q = rw (p, q) refl

pub cancelled_den : (d : ℕ) (n k : ℤ) → 0 < d → n *ℤ pos d ≡ k *ℤ pos d → n ≡ k
cancelled_den d n k p e =
    let least = le-from_mul_ℤ d n k p (omega (arith, ints, mul_comm_ℤ n (pos d), mul_comm_ℤ k (pos d), e)) in
    let most = le-from_mul_ℤ d k n p (omega (arith, ints, mul_comm_ℤ n (pos d), mul_comm_ℤ k (pos d), e)) in
    omega (arith, ints)

pub IsFrac-IsReduced : (f : Fraction) → IsFrac f → IsReduced f
IsFrac-IsReduced f h = record { some = h.some; lowest = h.lowest }

pub IsReduced-same : (f g : Fraction) → IsReduced f → IsReduced g → Same f g → f ≡ g
IsReduced-same f g h k e =
    let sizes = sym (unsigned_abs-mul f.num (pos g.den)) ∙ ap unsigned_abs e ∙ unsigned_abs-mul g.num (pos f.den) in
    let parts = same_lowest (unsigned_abs f.num) f.den (unsigned_abs g.num) g.den h.some k.some h.lowest k.lowest sizes in
    let one_den : f.num *ℤ pos f.den ≡ g.num *ℤ pos f.den = ap (λ (d : ℕ). f.num *ℤ pos d) parts.1 ∙ e in
    same_fraction f.num g.num f.den g.den (cancelled_den f.den f.num g.num h.some one_den) parts.1

pub lowest-same : (f g : Fraction) → IsFrac f → IsFrac g → Same f g → f ≡ g
lowest-same f g h k e = IsReduced-same f g (IsFrac-IsReduced f h) (IsFrac-IsReduced g k) e

-- a fraction in lowest terms that is n over d has a denominator of at most d
pub IsReduced-den_at_most : (f : Fraction) (n : ℤ) (d : ℕ) → IsReduced f → 0 < d → f.num *ℤ pos d ≡ n *ℤ pos f.den → f.den ≤ d
IsReduced-den_at_most f n d h p e =
    (within_parts (unsigned_abs f.num) f.den 1 (unsigned_abs n) d h.some p (sym (unsigned_abs-mul f.num (pos d)) ∙ ap unsigned_abs e ∙ unsigned_abs-mul n (pos f.den)) h.lowest).1

pub den_at_most : (f : Fraction) (n : ℤ) (d : ℕ) → IsFrac f → 0 < d → f.num *ℤ pos d ≡ n *ℤ pos f.den → f.den ≤ d
den_at_most f n d h p e = IsReduced-den_at_most f n d (IsFrac-IsReduced f h) p e
