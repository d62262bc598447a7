-- The low curve rises with its start rate.
use Rattle.std.proofs.Common.{◌≡◌, ℕ, ◌+◌, ◌-◌, ◌*◌, ◌≤◌, ⊎_elim, refl, ap, ap₂, ◌∙◌, arith, [], ◌∷◌, ℤ, pos, ◌+ℤ◌, ◌-ℤ◌, ◌*ℤ◌, ◌≤ℤ◌, ◌<ℤ◌, min, mul-le-mul_right}
use Rattle.std.proofs.lemmas.Int.{ints}
use lib.IntN.{*ℤ_comm}
use Rattle.acas_frac.proofs.SignedProducts.{mul-le_ℤ, le-trans_ℤ}
use Rattle.acas_frac.proofs.IntRing.{at, num, ◌⊗◌, ring}
use Rattle.acas_frac.proofs.Squares.{sq, sq_le, nearer_start}
use Rattle.acas_frac.proofs.Orders.{le_eq_ℤ, by_below, by_above, cases_lt_ℤ}
use Rattle.acas_flight.proofs.Curves.{steady, approach_below, approach_above}
use Rattle.acas_flight.proofs.Steps.{steady-add}
use Rattle.acas_flight.proofs.Between.{low_pull-below, low_pull-above}
use Rattle.acas_flight.proofs.Holding.{low_hold-below, low_hold-above, held-none, steady_below}
use Rattle.acas_flight.specs.Response.{Demand}
use Rattle.acas_flight.specs.Curves.{approach, held, low_pull, lowest}

-- the curve with its hold from x below the aim
pub held_below : (k : ℤ) (x b g t : ℕ) → held (k -ℤ pos x) k b g t ≡ ((steady k t b -ℤ pos ((x + x) * (b * min t g))) -ℤ pos (x * x)) +ℤ pos (sq (x - b * (t - g)))
held_below k x b g t =
    let whole : t ≡ min t g + (t - g) = omega arith in
    let sum : steady k t b ≡ steady k (t - g) b +ℤ steady k (min t g) b = ap (λ n. steady k n b) whole ∙ steady-add k (min t g) (t - g) b in
    ap₂ ◌+ℤ◌ (steady_below k x (min t g) b) (approach_below k x b (t - g))
    ∙ line (steady k (min t g) b) (steady k (t - g) b) (steady k t b) ((x + x) * (b * min t g)) (x * x) (sq (x - b * (t - g))) sum
  where
    line : (p r s : ℤ) (q m n : ℕ) → s ≡ r +ℤ p → (p -ℤ pos q) +ℤ ((r -ℤ pos m) +ℤ pos n) ≡ ((s -ℤ pos q) -ℤ pos m) +ℤ pos n
    line p r s q m n e = omega (arith, ints)

both_below : (k : ℤ) (x y b g t : ℕ) → y ≤ x → held (k -ℤ pos x) k b g t ≤ℤ held (k -ℤ pos y) k b g t
both_below k x y b g t h =
    rw (held_below k x b g t, held_below k y b g t)
    (line (steady k t b) ((x + x) * (b * min t g)) ((y + y) * (b * min t g)) (x * x) (y * y) (sq (x - b * (t - g))) (sq (y - b * (t - g)))
    (mul-le-mul_right (b * min t g) (omega arith)) (nearer_start x y (b * (t - g)) h))
  where
    line : (s : ℤ) (p q m n i j : ℕ) → q ≤ p → i + n ≤ j + m → (((s -ℤ pos p) -ℤ pos m) +ℤ pos i) ≤ℤ (((s -ℤ pos q) -ℤ pos n) +ℤ pos j)
    line s p q m n i j a b = omega (arith, ints)

both_above : (k : ℤ) (u w b t : ℕ) → u ≤ w → approach (k +ℤ pos u) k b t ≤ℤ approach (k +ℤ pos w) k b t
both_above k u w b t h =
    rw (approach_above k u b t, approach_above k w b t)
    (line (steady k t b) (u * u) (w * w) (sq (u - b * t)) (sq (w - b * t)) (nearer_start w u (b * t) h))
  where
    line : (s : ℤ) (m n i j : ℕ) → j + m ≤ i + n → ((s +ℤ pos m) -ℤ pos i) ≤ℤ ((s +ℤ pos n) -ℤ pos j)
    line s m n i j a = omega (arith, ints)

-- below the aim the curve stays below the line at the aim's rate
pub held_at_most : (k : ℤ) (x b g t : ℕ) → held (k -ℤ pos x) k b g t ≤ℤ steady k t b
held_at_most k x b g t =
    rw (held_below k x b g t) (line (steady k t b) ((x + x) * (b * min t g)) (x * x) (sq (x - b * (t - g))) (sq_le (x - b * (t - g)) x (omega arith)))
  where
    line : (s : ℤ) (p m i : ℕ) → i ≤ m → (((s -ℤ pos p) -ℤ pos m) +ℤ pos i) ≤ℤ s
    line s p m i a = omega (arith, ints)

pub approach_at_least : (k : ℤ) (u b t : ℕ) → steady k t b ≤ℤ approach (k +ℤ pos u) k b t
approach_at_least k u b t =
    rw (approach_above k u b t) (line (steady k t b) (u * u) (sq (u - b * t)) (sq_le (u - b * t) u (omega arith)))
  where
    line : (s : ℤ) (m i : ℕ) → i ≤ m → s ≤ℤ ((s +ℤ pos m) -ℤ pos i)
    line s m i a = omega (arith, ints)

pub scaled_le : (a b : ℤ) (n : ℕ) → a ≤ℤ b → (a *ℤ pos n) ≤ℤ (b *ℤ pos n)
scaled_le a b n h = rw (*ℤ_comm a (pos n), *ℤ_comm b (pos n)) (mul-le_ℤ n a b h)

-- The low curve from a higher start rate is at least as high: the two climbs are compared over the product of their pulls.
pub lowest_rises : (a : Demand) (v w : ℤ) (t : ℕ) → v ≤ℤ w → (lowest a v t *ℤ pos (low_pull a w)) ≤ℤ (lowest a w t *ℤ pos (low_pull a v))
lowest_rises a v w t h = ⊎_elim (λ i. ⊎_elim (λ j. low i j) (λ j. across i j) (cases_lt_ℤ w a.lo)) (λ i. high i) (cases_lt_ℤ v a.lo)
  where
    rise_below : (k : ℤ) (b g : ℕ) → v <ℤ k → w <ℤ k → held v k b g t ≤ℤ held w k b g t
    rise_below k b g i j =
        by_below k v (omega (arith, ints)) (λ x e. by_below k w (omega (arith, ints)) (λ y f. from x e y f))
      where
        from : (x : ℕ) → v ≡ k -ℤ pos x → (y : ℕ) → w ≡ k -ℤ pos y → held v k b g t ≤ℤ held w k b g t
        from x e y f = rw (e, f) (both_below k x y b g t (omega (arith, ints)))

    rise_above : (k : ℤ) (b : ℕ) → k ≤ℤ v → approach v k b t ≤ℤ approach w k b t
    rise_above k b i = by_above k v i (λ x e. by_above k w (omega (arith, ints)) (λ y f. from x e y f))
      where
        from : (x : ℕ) → v ≡ k +ℤ pos x → (y : ℕ) → w ≡ k +ℤ pos y → approach v k b t ≤ℤ approach w k b t
        from x e y f = rw (e, f) (both_above k x y b t (omega (arith, ints)))

    under_steady : (k : ℤ) (b g : ℕ) → v <ℤ k → held v k b g t ≤ℤ steady k t b
    under_steady k b g i = by_below k v (omega (arith, ints)) (λ x e. rw e (held_at_most k x b g t))

    over_steady : (k : ℤ) (b : ℕ) → k ≤ℤ w → steady k t b ≤ℤ approach w k b t
    over_steady k b i = by_above k w i (λ x e. rw e (approach_at_least k x b t))

    low : v <ℤ a.lo → w <ℤ a.lo → (lowest a v t *ℤ pos (low_pull a w)) ≤ℤ (lowest a w t *ℤ pos (low_pull a v))
    low i j =
        rw (low_pull-below a v i, low_pull-below a w j, low_hold-below a v i, low_hold-below a w j)
        (scaled_le (held v a.lo a.pull a.delay t) (held w a.lo a.pull a.delay t) a.pull (rise_below a.lo a.pull a.delay i j))

    swapped : (k : ℤ) (p l : ℕ) → steady k t p *ℤ pos l ≡ steady k t l *ℤ pos p
    swapped k p l = ring (k ∷ pos t ∷ pos p ∷ pos l ∷ [])
        ((((num (pos 2) ⊗ at 0) ⊗ at 1) ⊗ at 2) ⊗ at 3)
        ((((num (pos 2) ⊗ at 0) ⊗ at 1) ⊗ at 3) ⊗ at 2)
        refl

    across : v <ℤ a.lo → a.lo ≤ℤ w → (lowest a v t *ℤ pos (low_pull a w)) ≤ℤ (lowest a w t *ℤ pos (low_pull a v))
    across i j =
        rw (low_pull-below a v i, low_pull-above a w j, low_hold-below a v i, low_hold-above a w j, held-none w a.lo a.limit t)
        (le-trans_ℤ _ _ _ (scaled_le (held v a.lo a.pull a.delay t) (steady a.lo t a.pull) a.limit (under_steady a.lo a.pull a.delay i))
        (le-trans_ℤ _ _ _ (le_eq_ℤ _ _ (swapped a.lo a.pull a.limit)) (scaled_le (steady a.lo t a.limit) (approach w a.lo a.limit t) a.pull (over_steady a.lo a.limit j))))

    high : a.lo ≤ℤ v → (lowest a v t *ℤ pos (low_pull a w)) ≤ℤ (lowest a w t *ℤ pos (low_pull a v))
    high i =
        let j : a.lo ≤ℤ w = omega (arith, ints) in
        rw (low_pull-above a v i, low_pull-above a w j, low_hold-above a v i, low_hold-above a w j, held-none v a.lo a.limit t, held-none w a.lo a.limit t)
        (scaled_le (approach v a.lo a.limit t) (approach w a.lo a.limit t) a.limit (rise_above a.lo a.limit i))
