-- A curve over one denominator is the curve over another.
use Rattle.std.proofs.Common.{◌≡◌, ℕ, ◌-◌, ◌*◌, ◌<◌, ⊎_elim, refl, sym, ap, ◌∙◌, arith, [], ◌∷◌, ℤ, pos, ◌+ℤ◌, ◌-ℤ◌, ◌*ℤ◌, ◌≤ℤ◌}
use native.Mathlib.Nat.{mul-sub}
use Rattle.std.proofs.lemmas.Int.{ints}
use Rattle.acas_frac.proofs.SignedProducts.{le-from_mul_ℤ}
use Rattle.acas_frac.proofs.IntRing.{at, num, ◌⊕◌, ◌⊖◌, ◌⊗◌, ring}
use Rattle.acas_frac.proofs.Orders.{le_eq_ℤ, by_below, by_above, cases_lt_ℤ}
use Rattle.acas_flight.proofs.Curves.{approach_below, approach_above}
use Rattle.acas_flight.specs.Curves.{approach}
use Rattle.acas_flight.specs.Values.{IsOver}
use Rattle.acas_frac.specs.Fraction.{Fraction}

pub cancel_left : (n : ℕ) (a b : ℤ) → 0 < n → pos n *ℤ a ≡ pos n *ℤ b → a ≡ b
cancel_left n a b p e = both a b (le-from_mul_ℤ n a b p (le_eq_ℤ _ _ e)) (le-from_mul_ℤ n b a p (le_eq_ℤ _ _ (sym e)))
  where
    both : (a b : ℤ) → a ≤ℤ b → b ≤ℤ a → a ≡ b
    both a b h k = omega (arith, ints)

monus_scaled : (x b t m n : ℕ) → x * (m * n) - (b * m) * (t * n) ≡ (x - b * t) * (m * n)
monus_scaled x b t m n =
    let out = mul-sub (m * n) x (b * t) in
    let l : x * (m * n) ≡ (m * n) * x = omega arith in
    let r : (b * m) * (t * n) ≡ (m * n) * (b * t) = omega arith in
    let k : (x - b * t) * (m * n) ≡ (m * n) * (x - b * t) = omega arith in
    rw (l, r, k) (sym out)

scaled_below : (k : ℤ) (x b t m n : ℕ) → approach ((k -ℤ pos x) *ℤ pos (m * n)) (k *ℤ pos (m * n)) (b * m) (t * n) ≡ approach (k -ℤ pos x) k b t *ℤ pos ((m * n) * (m * n))
scaled_below k x b t m n =
    ap (λ v. approach v (k *ℤ pos (m * n)) (b * m) (t * n)) (start k x (m * n))
    ∙ approach_below (k *ℤ pos (m * n)) (x * (m * n)) (b * m) (t * n)
    ∙ rw (monus_scaled x b t m n)
    (ring (k ∷ pos x ∷ pos b ∷ pos t ∷ pos m ∷ pos n ∷ pos (x - b * t) ∷ [])
    (((((num (pos 2) ⊗ (at 0 ⊗ (at 4 ⊗ at 5))) ⊗ (at 3 ⊗ at 5)) ⊗ (at 2 ⊗ at 4)) ⊖ ((at 1 ⊗ (at 4 ⊗ at 5)) ⊗ (at 1 ⊗ (at 4 ⊗ at 5)))) ⊕ ((at 6 ⊗ (at 4 ⊗ at 5)) ⊗ (at 6 ⊗ (at 4 ⊗ at 5))))
    ((((((num (pos 2) ⊗ at 0) ⊗ at 3) ⊗ at 2) ⊖ (at 1 ⊗ at 1)) ⊕ (at 6 ⊗ at 6)) ⊗ ((at 4 ⊗ at 5) ⊗ (at 4 ⊗ at 5)))
    refl
    ∙ ap (λ z. z *ℤ pos ((m * n) * (m * n))) (sym (approach_below k x b t)))
  where
    start : (k : ℤ) (x n : ℕ) → (k -ℤ pos x) *ℤ pos n ≡ (k *ℤ pos n) -ℤ pos (x * n)
    start k x n = ring (k ∷ pos x ∷ pos n ∷ []) ((at 0 ⊖ at 1) ⊗ at 2) ((at 0 ⊗ at 2) ⊖ (at 1 ⊗ at 2)) refl

scaled_above : (k : ℤ) (x b t m n : ℕ) → approach ((k +ℤ pos x) *ℤ pos (m * n)) (k *ℤ pos (m * n)) (b * m) (t * n) ≡ approach (k +ℤ pos x) k b t *ℤ pos ((m * n) * (m * n))
scaled_above k x b t m n =
    ap (λ v. approach v (k *ℤ pos (m * n)) (b * m) (t * n)) (start k x (m * n))
    ∙ approach_above (k *ℤ pos (m * n)) (x * (m * n)) (b * m) (t * n)
    ∙ rw (monus_scaled x b t m n)
    (ring (k ∷ pos x ∷ pos b ∷ pos t ∷ pos m ∷ pos n ∷ pos (x - b * t) ∷ [])
    (((((num (pos 2) ⊗ (at 0 ⊗ (at 4 ⊗ at 5))) ⊗ (at 3 ⊗ at 5)) ⊗ (at 2 ⊗ at 4)) ⊕ ((at 1 ⊗ (at 4 ⊗ at 5)) ⊗ (at 1 ⊗ (at 4 ⊗ at 5)))) ⊖ ((at 6 ⊗ (at 4 ⊗ at 5)) ⊗ (at 6 ⊗ (at 4 ⊗ at 5))))
    ((((((num (pos 2) ⊗ at 0) ⊗ at 3) ⊗ at 2) ⊕ (at 1 ⊗ at 1)) ⊖ (at 6 ⊗ at 6)) ⊗ ((at 4 ⊗ at 5) ⊗ (at 4 ⊗ at 5)))
    refl
    ∙ ap (λ z. z *ℤ pos ((m * n) * (m * n))) (sym (approach_above k x b t)))
  where
    start : (k : ℤ) (x n : ℕ) → (k +ℤ pos x) *ℤ pos n ≡ (k *ℤ pos n) +ℤ pos (x * n)
    start k x n = ring (k ∷ pos x ∷ pos n ∷ []) ((at 0 ⊕ at 1) ⊗ at 2) ((at 0 ⊗ at 2) ⊕ (at 1 ⊗ at 2)) refl

-- Accelerations m times as large and times n times as long scale rates by m*n.
pub approach-scaled : (v k : ℤ) (b t m n : ℕ) → approach (v *ℤ pos (m * n)) (k *ℤ pos (m * n)) (b * m) (t * n) ≡ approach v k b t *ℤ pos ((m * n) * (m * n))
approach-scaled v k b t m n =
    ⊎_elim
    (λ h. by_below k v (omega (arith, ints)) (λ x e. rw e (scaled_below k x b t m n)))
    (λ h. by_above k v h (λ x e. rw e (scaled_above k x b t m n)))
    (cases_lt_ℤ v k)

-- two numbers of one fraction, over c and over d
pub over_both : (c d : ℕ) (m n : ℤ) (f : Fraction) → 0 < f.den → IsOver c m f → IsOver d n f → n *ℤ pos c ≡ m *ℤ pos d
over_both c d m n f p e h = cancel_left f.den (n *ℤ pos c) (m *ℤ pos d) p (left ∙ ap (λ z. z *ℤ pos c) h ∙ middle ∙ ap (λ z. z *ℤ pos d) (sym e) ∙ right)
  where
    left : pos f.den *ℤ (n *ℤ pos c) ≡ (n *ℤ pos f.den) *ℤ pos c
    left = ring (pos f.den ∷ n ∷ pos c ∷ []) (at 0 ⊗ (at 1 ⊗ at 2)) ((at 1 ⊗ at 0) ⊗ at 2) refl

    middle : (f.num *ℤ pos d) *ℤ pos c ≡ (f.num *ℤ pos c) *ℤ pos d
    middle = ring (f.num ∷ pos d ∷ pos c ∷ []) ((at 0 ⊗ at 1) ⊗ at 2) ((at 0 ⊗ at 2) ⊗ at 1) refl

    right : (m *ℤ pos f.den) *ℤ pos d ≡ pos f.den *ℤ (m *ℤ pos d)
    right = ring (m ∷ pos f.den ∷ pos d ∷ []) ((at 0 ⊗ at 1) ⊗ at 2) (at 1 ⊗ (at 0 ⊗ at 2)) refl

pub pos_inj : (m n : ℕ) → pos m ≡ pos n → m ≡ n
pos_inj m n e = omega (arith, ints)
