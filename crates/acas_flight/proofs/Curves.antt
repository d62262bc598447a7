-- The curves in one form without cases, and what one more segment does to them.
use Rattle.std.proofs.Common.{◌≡◌, ℕ, ◌+◌, ◌-◌, ◌*◌, ◌<◌, ◌≤◌, ⊎_elim, refl, sym, ap, ◌∙◌, arith, Bool, true, false, cond, [], ◌∷◌, ℤ, pos, ◌+ℤ◌, ◌-ℤ◌, ◌*ℤ◌, ◌≤ℤ◌, int_le, min}
use Rattle.std.proofs.lemmas.Int.{ints}
use Rattle.std.proofs.lemmas.Bool.{cases_lt}
use Rattle.acas_frac.proofs.IntRing.{at, num, ◌⊕◌, ◌⊖◌, ◌⊗◌, ring}
use Rattle.acas_frac.proofs.Squares.{sq}
use Rattle.acas_frac.proofs.Orders.{by_below, by_above, cases_lt_ℤ}
use Rattle.acas_flight.specs.Curves.{approach, held}

-- 2 k t b
abbrev pub steady : ℤ → ℕ → ℕ → ℤ
steady k t b = ((pos 2 *ℤ k) *ℤ pos t) *ℤ pos b

by_test : (P : ℤ → Type 0) (t : Bool) (x y : ℤ) → (t ≡ true → P x) → (t ≡ false → P y) → P (cond t x y)
by_test P true x y f g = f refl
by_test P false x y f g = g refl

rising_before : (k : ℤ) (x b t c : ℕ) → x ≡ c + b * t → (((pos 2 *ℤ (k -ℤ pos x)) *ℤ pos t) +ℤ pos (b * t * t)) *ℤ pos b ≡ (steady k t b -ℤ pos (x * x)) +ℤ pos (c * c)
rising_before k x b t c e = rw e (ring (k ∷ pos c ∷ pos b ∷ pos t ∷ [])
    ((((num (pos 2) ⊗ (at 0 ⊖ (at 1 ⊕ at 2 ⊗ at 3))) ⊗ at 3) ⊕ ((at 2 ⊗ at 3) ⊗ at 3)) ⊗ at 2)
    (((((num (pos 2) ⊗ at 0) ⊗ at 3) ⊗ at 2) ⊖ ((at 1 ⊕ at 2 ⊗ at 3) ⊗ (at 1 ⊕ at 2 ⊗ at 3))) ⊕ (at 1 ⊗ at 1))
    refl)

rising_after : (k : ℤ) (x b t : ℕ) → steady k t b -ℤ ((k -ℤ (k -ℤ pos x)) *ℤ (k -ℤ (k -ℤ pos x))) ≡ (steady k t b -ℤ pos (x * x)) +ℤ pos (0 * 0)
rising_after k x b t = ring (k ∷ pos x ∷ pos b ∷ pos t ∷ [])
    ((((num (pos 2) ⊗ at 0) ⊗ at 3) ⊗ at 2) ⊖ ((at 0 ⊖ (at 0 ⊖ at 1)) ⊗ (at 0 ⊖ (at 0 ⊖ at 1))))
    (((((num (pos 2) ⊗ at 0) ⊗ at 3) ⊗ at 2) ⊖ (at 1 ⊗ at 1)) ⊕ num (pos 0))
    refl

falling_before : (k : ℤ) (u b t c : ℕ) → u ≡ c + b * t → (((pos 2 *ℤ (k +ℤ pos u)) *ℤ pos t) -ℤ pos (b * t * t)) *ℤ pos b ≡ (steady k t b +ℤ pos (u * u)) -ℤ pos (c * c)
falling_before k u b t c e = rw e (ring (k ∷ pos c ∷ pos b ∷ pos t ∷ [])
    ((((num (pos 2) ⊗ (at 0 ⊕ (at 1 ⊕ at 2 ⊗ at 3))) ⊗ at 3) ⊖ ((at 2 ⊗ at 3) ⊗ at 3)) ⊗ at 2)
    (((((num (pos 2) ⊗ at 0) ⊗ at 3) ⊗ at 2) ⊕ ((at 1 ⊕ at 2 ⊗ at 3) ⊗ (at 1 ⊕ at 2 ⊗ at 3))) ⊖ (at 1 ⊗ at 1))
    refl)

falling_after : (k : ℤ) (u b t : ℕ) → steady k t b +ℤ ((k -ℤ (k +ℤ pos u)) *ℤ (k -ℤ (k +ℤ pos u))) ≡ (steady k t b +ℤ pos (u * u)) -ℤ pos (0 * 0)
falling_after k u b t = ring (k ∷ pos u ∷ pos b ∷ pos t ∷ [])
    ((((num (pos 2) ⊗ at 0) ⊗ at 3) ⊗ at 2) ⊕ ((at 0 ⊖ (at 0 ⊕ at 1)) ⊗ (at 0 ⊖ (at 0 ⊕ at 1))))
    (((((num (pos 2) ⊗ at 0) ⊗ at 3) ⊗ at 2) ⊕ (at 1 ⊗ at 1)) ⊖ num (pos 0))
    refl

-- The curve from x below the aim.
pub approach_below : (k : ℤ) (x b t : ℕ) → approach (k -ℤ pos x) k b t ≡ (steady k t b -ℤ pos (x * x)) +ℤ pos (sq (x - b * t))
unfolding approach
approach_below k x b t =
    by_test (λ z. z ≡ (steady k t b -ℤ pos (x * x)) +ℤ pos (sq (x - b * t))) (int_le (k -ℤ pos x) k) _ _
    (λ e. by_test (λ z. z ≡ (steady k t b -ℤ pos (x * x)) +ℤ pos (sq (x - b * t))) (int_le ((k -ℤ pos x) +ℤ pos (b * t)) k) _ _
    (λ f. rising_before k x b t (x - b * t) (let le : b * t ≤ x = omega (arith, ints) in omega arith))
    (λ f. let z : x - b * t ≡ 0 = omega (arith, ints) in rw z (rising_after k x b t)))
    (λ e. absurd (omega (arith, ints)))

level : (k : ℤ) (u b t : ℕ) → u ≡ 0 → approach (k +ℤ pos u) k b t ≡ (steady k t b +ℤ pos (u * u)) -ℤ pos (sq (u - b * t))
unfolding approach
level k u b t e =
    let same : k +ℤ pos u ≡ k -ℤ pos 0 = omega (arith, ints) in
    let none : 0 - b * t ≡ 0 = omega arith in
    ap (λ v. approach v k b t) same ∙ approach_below k 0 b t ∙ rw (e, none) (omega (arith, ints))

-- The curve from u above the aim.
pub approach_above : (k : ℤ) (u b t : ℕ) → approach (k +ℤ pos u) k b t ≡ (steady k t b +ℤ pos (u * u)) -ℤ pos (sq (u - b * t))
unfolding approach
approach_above k u b t =
    ⊎_elim (λ (l : u < 1). level k u b t (omega arith))
    (λ (l : 1 ≤ u). by_test (λ z. z ≡ (steady k t b +ℤ pos (u * u)) -ℤ pos (sq (u - b * t))) (int_le (k +ℤ pos u) k) _ _
    (λ e. absurd (omega (arith, ints)))
    (λ e. by_test (λ z. z ≡ (steady k t b +ℤ pos (u * u)) -ℤ pos (sq (u - b * t))) (int_le k ((k +ℤ pos u) -ℤ pos (b * t))) _ _
    (λ f. falling_before k u b t (u - b * t) (let le : b * t ≤ u = omega (arith, ints) in omega arith))
    (λ f. let z : u - b * t ≡ 0 = omega (arith, ints) in rw z (falling_after k u b t))))
    (cases_lt u 1)

-- ---- the rows of the curve's table

pub approach-rising : (v k : ℤ) (b t : ℕ) → v ≤ℤ k → (v +ℤ pos (b * t)) ≤ℤ k → approach v k b t ≡ (((pos 2 *ℤ v) *ℤ pos t) +ℤ pos (b * t * t)) *ℤ pos b
approach-rising v k b t h l = by_below k v h from
  where
    from : (x : ℕ) → v ≡ k -ℤ pos x → approach v k b t ≡ (((pos 2 *ℤ v) *ℤ pos t) +ℤ pos (b * t * t)) *ℤ pos b
    from x e =
        let le : b * t ≤ x = omega (arith, ints) in
        rw e (approach_below k x b t ∙ sym (rising_before k x b t (x - b * t) (omega (arith, le))))

pub approach-risen : (v k : ℤ) (b t : ℕ) → v ≤ℤ k → k ≤ℤ (v +ℤ pos (b * t)) → approach v k b t ≡ steady k t b -ℤ ((k -ℤ v) *ℤ (k -ℤ v))
approach-risen v k b t h l = by_below k v h from
  where
    from : (x : ℕ) → v ≡ k -ℤ pos x → approach v k b t ≡ steady k t b -ℤ ((k -ℤ v) *ℤ (k -ℤ v))
    from x e =
        let z : x - b * t ≡ 0 = omega (arith, ints) in
        rw e (approach_below k x b t ∙ rw z (sym (rising_after k x b t)))

pub approach-falling : (v k : ℤ) (b t : ℕ) → k ≤ℤ v → k ≤ℤ (v -ℤ pos (b * t)) → approach v k b t ≡ (((pos 2 *ℤ v) *ℤ pos t) -ℤ pos (b * t * t)) *ℤ pos b
approach-falling v k b t h l = by_above k v h from
  where
    from : (u : ℕ) → v ≡ k +ℤ pos u → approach v k b t ≡ (((pos 2 *ℤ v) *ℤ pos t) -ℤ pos (b * t * t)) *ℤ pos b
    from u e =
        let le : b * t ≤ u = omega (arith, ints) in
        rw e (approach_above k u b t ∙ sym (falling_before k u b t (u - b * t) (omega (arith, le))))

pub approach-fallen : (v k : ℤ) (b t : ℕ) → k ≤ℤ v → (v -ℤ pos (b * t)) ≤ℤ k → approach v k b t ≡ steady k t b +ℤ ((k -ℤ v) *ℤ (k -ℤ v))
approach-fallen v k b t h l = by_above k v h from
  where
    from : (u : ℕ) → v ≡ k +ℤ pos u → approach v k b t ≡ steady k t b +ℤ ((k -ℤ v) *ℤ (k -ℤ v))
    from u e =
        let z : u - b * t ≡ 0 = omega (arith, ints) in
        rw e (approach_above k u b t ∙ rw z (sym (falling_after k u b t)))

pub approach-at_once : (v k : ℤ) (b : ℕ) → approach v k b 0 ≡ pos 0
approach-at_once v k b = ⊎_elim (λ h. under (omega (arith, ints))) over (cases_lt_ℤ v k)
  where
    none : b * 0 ≡ 0
    none = omega arith

    zero : (v : ℤ) → (((pos 2 *ℤ v) *ℤ pos 0) +ℤ pos (b * 0 * 0)) *ℤ pos b ≡ pos 0
    zero v = rw none (ring (v ∷ pos b ∷ []) ((((num (pos 2) ⊗ at 0) ⊗ num (pos 0)) ⊕ num (pos 0)) ⊗ at 1) (num (pos 0)) refl)

    zero_down : (v : ℤ) → (((pos 2 *ℤ v) *ℤ pos 0) -ℤ pos (b * 0 * 0)) *ℤ pos b ≡ pos 0
    zero_down v = rw none (ring (v ∷ pos b ∷ []) ((((num (pos 2) ⊗ at 0) ⊗ num (pos 0)) ⊖ num (pos 0)) ⊗ at 1) (num (pos 0)) refl)

    under : v ≤ℤ k → approach v k b 0 ≡ pos 0
    under h = approach-rising v k b 0 h (rw none (omega (arith, ints))) ∙ zero v

    over : k ≤ℤ v → approach v k b 0 ≡ pos 0
    over h = approach-falling v k b 0 h (rw none (omega (arith, ints))) ∙ zero_down v

pub held-holding : (v k : ℤ) (b g t : ℕ) → t ≤ g → held v k b g t ≡ steady v t b
held-holding v k b g t h =
    let all : min t g ≡ t = omega arith in
    let none : t - g ≡ 0 = omega arith in
    rw (all, none, approach-at_once v k b) (omega (arith, ints))

pub held-held : (v k : ℤ) (b g t : ℕ) → g ≤ t → held v k b g t ≡ steady v g b +ℤ approach v k b (t - g)
held-held v k b g t h = let all : min t g ≡ g = omega arith in rw all refl
