-- Sums over places: equal, smaller, scaled and added terms.
use Rattle.std.proofs.Common.{◌≡◌, ℕ, zero, suc, ◌<◌, ◌≤◌, ℤ, pos, ◌+ℤ◌, ◌*ℤ◌, ◌≤ℤ◌, refl, subst, ◌∙◌, ⊎_elim, arith}
use Rattle.std.proofs.lemmas.Bool.{cases_lt}
use Rattle.std.proofs.lemmas.Int.{ints}
use Rattle.acas_frac.proofs.SignedProducts.{mul-add_ℤ}
use Rattle.acas_process.specs.Sums.{sum_below}

pub sum_below-same : (n : ℕ) (f g : ℕ → ℤ) → ((i : ℕ) → i < n → f i ≡ g i) → sum_below n f ≡ sum_below n g
sum_below-same zero f g h = refl
sum_below-same (suc n) f g h = omega (arith, ints, sum_below-same n f g (λ i k. h i (omega arith)), h n (omega arith))

pub sum_below-le : (n : ℕ) (f g : ℕ → ℤ) → ((i : ℕ) → i < n → f i ≤ℤ g i) → sum_below n f ≤ℤ sum_below n g
sum_below-le zero f g h = omega (arith, ints)
sum_below-le (suc n) f g h = omega (arith, ints, sum_below-le n f g (λ i k. h i (omega arith)), h n (omega arith))

pub sum_below-mul : (n : ℕ) (c : ℤ) (f : ℕ → ℤ) → sum_below n (λ i. c *ℤ f i) ≡ c *ℤ sum_below n f
sum_below-mul zero c f = omega (arith, ints)
sum_below-mul (suc n) c f = omega (arith, ints, sum_below-mul n c f, mul-add_ℤ c (sum_below n f) (f n))

pub sum_below-add : (n : ℕ) (f g : ℕ → ℤ) → sum_below n (λ i. f i +ℤ g i) ≡ sum_below n f +ℤ sum_below n g
sum_below-add zero f g = omega (arith, ints)
sum_below-add (suc n) f g = omega (arith, ints, sum_below-add n f g)

pub sum_below-zero : (n : ℕ) → sum_below n (λ i. pos 0) ≡ pos 0
sum_below-zero zero = refl
sum_below-zero (suc n) = omega (arith, ints, sum_below-zero n)

-- a sum of terms that are at least 0
pub sum_below-pos : (n : ℕ) (f : ℕ → ℤ) → ((i : ℕ) → i < n → pos 0 ≤ℤ f i) → pos 0 ≤ℤ sum_below n f
sum_below-pos zero f h = omega (arith, ints)
sum_below-pos (suc n) f h = omega (arith, ints, sum_below-pos n f (λ i k. h i (omega arith)), h n (omega arith))

-- the first term apart
pub sum_below-first : (n : ℕ) (f : ℕ → ℤ) → sum_below (suc n) f ≡ f 0 +ℤ sum_below n (λ i. f (suc i))
sum_below-first zero f = omega (arith, ints)
sum_below-first (suc n) f = omega (arith, ints, sum_below-first n f)

-- a sum whose terms are all 0
none_before : (n : ℕ) (g : ℕ → ℤ) → ((i : ℕ) → i < n → g i ≡ pos 0) → sum_below n g ≡ pos 0
none_before n g h = sum_below-same n g (λ i. pos 0) h ∙ sum_below-zero n

-- a sum with two neighbouring terms that are not 0
pub sum_of_two : (n k : ℕ) (g : ℕ → ℤ) → suc k < n → ((i : ℕ) → i < k → g i ≡ pos 0) → ((i : ℕ) → suc k < i → g i ≡ pos 0) → sum_below n g ≡ g k +ℤ g (suc k)
sum_of_two zero k g h before after = absurd (omega arith)
sum_of_two (suc n) k g h before after =
    ⊎_elim
    (λ (later : suc k < n). omega (arith, ints, sum_of_two n k g later before after, after n later))
    (λ (here : n ≤ suc k). let e : suc k ≡ n = omega arith in subst (λ z. sum_below (suc z) g ≡ g k +ℤ g (suc k)) e (omega (arith, ints, none_before k g before)))
    (cases_lt (suc k) n)
