-- The gap of a race over other denominators.
use Rattle.std.proofs.Common.{◌≡◌, ℕ, ◌*◌, ◌<◌, refl, sym, ap, ap₂, ◌∙◌, arith, [], ◌∷◌, ℤ, pos, ◌+ℤ◌, ◌-ℤ◌, ◌*ℤ◌, ◌≤ℤ◌, ◌<ℤ◌, mul-pos}
use Rattle.acas_frac.proofs.SignedProducts.{lt-from_mul_ℤ, le-from_mul_ℤ, mul-le_ℤ, mul-lt_ℤ}
use Rattle.acas_frac.proofs.IntRing.{at, ◌⊕◌, ◌⊖◌, ◌⊗◌, ring}
use Rattle.acas_flight_lemmas.proofs.Scales.{cancel_left, approach-scaled}
use Rattle.acas_flight_lemmas.proofs.Held.{held-scaled}
use Rattle.acas_flight.proofs.Holding.{held-none}
use Rattle.acas_flight.specs.Curves.{approach, held}
use Rattle.acas_rulings.specs.Race.{Race, own_climb, race_gap}
use Rattle.acas_rulings.specs.Turns.{Instant, race_number, IsLower, IsAsLow}

-- ---- in finer numbers

own-finer : (r : Race) (q t m : ℕ) → own_climb r (q * m) (t * m) ≡ own_climb r q t *ℤ pos ((m * m) * (m * m))
own-finer r q t m =
    ap₂ (λ (v k : ℤ). held v k (r.pull * (q * m)) (r.hold * (q * m)) (t * m)) (out r.start) (out r.aim)
    ∙ ap₂ (λ (b g : ℕ). held ((r.start *ℤ pos (q * q)) *ℤ pos (m * m)) ((r.aim *ℤ pos (q * q)) *ℤ pos (m * m)) b g (t * m)) (along r.pull) (along r.hold)
    ∙ held-scaled (r.start *ℤ pos (q * q)) (r.aim *ℤ pos (q * q)) (r.pull * q) (r.hold * q) t m m
  where
    out : (v : ℤ) → v *ℤ pos ((q * m) * (q * m)) ≡ (v *ℤ pos (q * q)) *ℤ pos (m * m)
    out v = ring (v ∷ pos q ∷ pos m ∷ []) (at 0 ⊗ ((at 1 ⊗ at 2) ⊗ (at 1 ⊗ at 2))) ((at 0 ⊗ (at 1 ⊗ at 1)) ⊗ (at 2 ⊗ at 2)) refl

    along : (b : ℕ) → b * (q * m) ≡ (b * q) * m
    along b = omega arith

approach-finer : (v k : ℤ) (a q t m : ℕ) → approach (v *ℤ pos ((q * m) * (q * m))) (k *ℤ pos ((q * m) * (q * m))) (a * (q * m)) (t * m) ≡ approach (v *ℤ pos (q * q)) (k *ℤ pos (q * q)) (a * q) t *ℤ pos ((m * m) * (m * m))
approach-finer v k a q t m =
    ap₂ (λ (i j : ℤ). approach i j (a * (q * m)) (t * m)) (out v) (out k)
    ∙ ap (λ (b : ℕ). approach ((v *ℤ pos (q * q)) *ℤ pos (m * m)) ((k *ℤ pos (q * q)) *ℤ pos (m * m)) b (t * m)) (along a)
    ∙ approach-scaled (v *ℤ pos (q * q)) (k *ℤ pos (q * q)) (a * q) t m m
  where
    out : (v : ℤ) → v *ℤ pos ((q * m) * (q * m)) ≡ (v *ℤ pos (q * q)) *ℤ pos (m * m)
    out v = ring (v ∷ pos q ∷ pos m ∷ []) (at 0 ⊗ ((at 1 ⊗ at 2) ⊗ (at 1 ⊗ at 2))) ((at 0 ⊗ (at 1 ⊗ at 1)) ⊗ (at 2 ⊗ at 2)) refl

    along : (b : ℕ) → b * (q * m) ≡ (b * q) * m
    along b = omega arith

pub race_gap-finer : (r : Race) (q t m : ℕ) → race_gap r (q * m) (t * m) ≡ race_gap r q t *ℤ pos ((m * m) * (m * m) * m)
race_gap-finer r q t m =
    line _ _ _ _ (own-finer r q t m) (approach-finer r.rate r.goal r.accel q t m)
  where
    line : (o o' y y' : ℤ) → o' ≡ o *ℤ pos ((m * m) * (m * m)) → y' ≡ y *ℤ pos ((m * m) * (m * m)) →
        (o' *ℤ pos (r.accel * (q * m))) -ℤ (((r.height *ℤ pos ((q * m) * (q * m) * (q * m) * (r.accel * (q * m)))) +ℤ y') *ℤ pos (r.pull * (q * m)))
        ≡ ((o *ℤ pos (r.accel * q)) -ℤ (((r.height *ℤ pos (q * q * q * (r.accel * q))) +ℤ y) *ℤ pos (r.pull * q))) *ℤ pos ((m * m) * (m * m) * m)
    line o o' y y' e f = rw (e, f) (ring (o ∷ y ∷ r.height ∷ pos q ∷ pos m ∷ pos r.accel ∷ pos r.pull ∷ [])
        (((at 0 ⊗ ((at 4 ⊗ at 4) ⊗ (at 4 ⊗ at 4))) ⊗ (at 5 ⊗ (at 3 ⊗ at 4))) ⊖ (((at 2 ⊗ ((((at 3 ⊗ at 4) ⊗ (at 3 ⊗ at 4)) ⊗ (at 3 ⊗ at 4)) ⊗ (at 5 ⊗ (at 3 ⊗ at 4)))) ⊕ (at 1 ⊗ ((at 4 ⊗ at 4) ⊗ (at 4 ⊗ at 4)))) ⊗ (at 6 ⊗ (at 3 ⊗ at 4))))
        (((at 0 ⊗ (at 5 ⊗ at 3)) ⊖ (((at 2 ⊗ (((at 3 ⊗ at 3) ⊗ at 3) ⊗ (at 5 ⊗ at 3))) ⊕ at 1) ⊗ (at 6 ⊗ at 3))) ⊗ (((at 4 ⊗ at 4) ⊗ (at 4 ⊗ at 4)) ⊗ at 4))
        refl)

-- ---- the number of a time n/d

module _ (d n q t : ℕ) (e : t * d ≡ n * q) where
  climbs : (v k : ℤ) (b g : ℕ) → held (v *ℤ pos (q * q)) (k *ℤ pos (q * q)) (b * q) (g * q) t *ℤ pos ((d * d) * (d * d)) ≡ held (v *ℤ pos d) (k *ℤ pos d) b (g * d) n *ℤ pos (((q * d) * q) * ((q * d) * q))
  climbs v k b g =
      sym (held-scaled (v *ℤ pos (q * q)) (k *ℤ pos (q * q)) (b * q) (g * q) t d d)
      ∙ ap₂ (λ (i j : ℤ). held i j ((b * q) * d) ((g * q) * d) (t * d)) (turn v) (turn k)
      ∙ ap₂ (λ (i j : ℕ). held ((v *ℤ pos d) *ℤ pos ((q * d) * q)) ((k *ℤ pos d) *ℤ pos ((q * d) * q)) i j (t * d)) pulls holds
      ∙ ap (λ (m : ℕ). held ((v *ℤ pos d) *ℤ pos ((q * d) * q)) ((k *ℤ pos d) *ℤ pos ((q * d) * q)) (b * (q * d)) ((g * d) * q) m) e
      ∙ held-scaled (v *ℤ pos d) (k *ℤ pos d) b (g * d) n (q * d) q
    where
      turn : (v : ℤ) → (v *ℤ pos (q * q)) *ℤ pos (d * d) ≡ (v *ℤ pos d) *ℤ pos ((q * d) * q)
      turn v = ring (v ∷ pos q ∷ pos d ∷ []) ((at 0 ⊗ (at 1 ⊗ at 1)) ⊗ (at 2 ⊗ at 2)) ((at 0 ⊗ at 2) ⊗ ((at 1 ⊗ at 2) ⊗ at 1)) refl

      pulls : (b * q) * d ≡ b * (q * d)
      pulls = omega arith

      holds : (g * q) * d ≡ (g * d) * q
      holds = omega arith

  approaches : (v k : ℤ) (b : ℕ) → approach (v *ℤ pos (q * q)) (k *ℤ pos (q * q)) (b * q) t *ℤ pos ((d * d) * (d * d)) ≡ approach (v *ℤ pos d) (k *ℤ pos d) b n *ℤ pos (((q * d) * q) * ((q * d) * q))
  approaches v k b =
      let c = climbs v k b 0 in
      let z : 0 * q ≡ 0 = omega arith in
      let z' : 0 * d ≡ 0 = omega arith in
      rw (z, z', held-none (v *ℤ pos (q * q)) (k *ℤ pos (q * q)) (b * q) t, held-none (v *ℤ pos d) (k *ℤ pos d) b n) at c

-- the gap times the square of the time's denominator is its number, over q^5
pub race_gap-number : (r : Race) (p : Instant) (q t : ℕ) → 0 < p.den → t * p.den ≡ p.num * q →
    pos (p.den * p.den) *ℤ race_gap r q t ≡ pos ((q * q) * (q * q) * q) *ℤ race_number r p
race_gap-number r p q t s e = cancel_left (p.den * p.den) _ _ (mul-pos s s)
    (line p.den _ _ _ _ (climbs p.den p.num q t e r.start r.aim r.pull r.hold) (approaches p.den p.num q t e r.rate r.goal r.accel))
  where
    line : (d : ℕ) (o o' y y' : ℤ) → o *ℤ pos ((d * d) * (d * d)) ≡ o' *ℤ pos (((q * d) * q) * ((q * d) * q)) → y *ℤ pos ((d * d) * (d * d)) ≡ y' *ℤ pos (((q * d) * q) * ((q * d) * q)) →
        pos (d * d) *ℤ (pos (d * d) *ℤ ((o *ℤ pos (r.accel * q)) -ℤ (((r.height *ℤ pos (q * q * q * (r.accel * q))) +ℤ y) *ℤ pos (r.pull * q))))
        ≡ pos (d * d) *ℤ (pos ((q * q) * (q * q) * q) *ℤ ((o' *ℤ pos r.accel) -ℤ (((r.height *ℤ pos (d * d * r.accel)) +ℤ y') *ℤ pos r.pull)))
    line d o o' y y' f g =
        ring (o ∷ y ∷ r.height ∷ pos q ∷ pos d ∷ pos r.accel ∷ pos r.pull ∷ [])
        ((at 4 ⊗ at 4) ⊗ ((at 4 ⊗ at 4) ⊗ ((at 0 ⊗ (at 5 ⊗ at 3)) ⊖ (((at 2 ⊗ (((at 3 ⊗ at 3) ⊗ at 3) ⊗ (at 5 ⊗ at 3))) ⊕ at 1) ⊗ (at 6 ⊗ at 3)))))
        ((((at 0 ⊗ ((at 4 ⊗ at 4) ⊗ (at 4 ⊗ at 4))) ⊗ (at 5 ⊗ at 3)) ⊖ ((at 1 ⊗ ((at 4 ⊗ at 4) ⊗ (at 4 ⊗ at 4))) ⊗ (at 6 ⊗ at 3))) ⊖ ((((at 2 ⊗ (((at 3 ⊗ at 3) ⊗ at 3) ⊗ (at 5 ⊗ at 3))) ⊗ (at 6 ⊗ at 3)) ⊗ (at 4 ⊗ at 4)) ⊗ (at 4 ⊗ at 4)))
        refl
        ∙ ap₂ (λ (i j : ℤ). ((i *ℤ pos (r.accel * q)) -ℤ (j *ℤ pos (r.pull * q))) -ℤ ((((r.height *ℤ pos (q * q * q * (r.accel * q))) *ℤ pos (r.pull * q)) *ℤ pos (d * d)) *ℤ pos (d * d))) f g
        ∙ ring (o' ∷ y' ∷ r.height ∷ pos q ∷ pos d ∷ pos r.accel ∷ pos r.pull ∷ [])
        ((((at 0 ⊗ (((at 3 ⊗ at 4) ⊗ at 3) ⊗ ((at 3 ⊗ at 4) ⊗ at 3))) ⊗ (at 5 ⊗ at 3)) ⊖ ((at 1 ⊗ (((at 3 ⊗ at 4) ⊗ at 3) ⊗ ((at 3 ⊗ at 4) ⊗ at 3))) ⊗ (at 6 ⊗ at 3))) ⊖ ((((at 2 ⊗ (((at 3 ⊗ at 3) ⊗ at 3) ⊗ (at 5 ⊗ at 3))) ⊗ (at 6 ⊗ at 3)) ⊗ (at 4 ⊗ at 4)) ⊗ (at 4 ⊗ at 4)))
        ((at 4 ⊗ at 4) ⊗ ((((at 3 ⊗ at 3) ⊗ (at 3 ⊗ at 3)) ⊗ at 3) ⊗ ((at 0 ⊗ at 5) ⊖ (((at 2 ⊗ ((at 4 ⊗ at 4) ⊗ at 5)) ⊕ at 1) ⊗ at 6))))
        refl

-- ---- so the order of numbers is that of gaps

module _ (r : Race) (p p' : Instant) (q i j : ℕ) (sq : 0 < q) (s : 0 < p.den) (s' : 0 < p'.den) (e : i * p.den ≡ p.num * q) (e' : j * p'.den ≡ p'.num * q) where
  first : pos ((q * q) * (q * q) * q) *ℤ (race_number r p *ℤ pos (p'.den * p'.den)) ≡ pos ((p.den * p.den) * (p'.den * p'.den)) *ℤ race_gap r q i
  first = swap (pos ((q * q) * (q * q) * q)) (race_number r p) (pos (p'.den * p'.den)) ∙ ap (λ z. z *ℤ pos (p'.den * p'.den)) (sym (race_gap-number r p q i s e)) ∙ turn (pos (p.den * p.den)) (race_gap r q i) (pos (p'.den * p'.den))
    where
      swap : (a b c : ℤ) → a *ℤ (b *ℤ c) ≡ (a *ℤ b) *ℤ c
      swap a b c = ring (a ∷ b ∷ c ∷ []) (at 0 ⊗ (at 1 ⊗ at 2)) ((at 0 ⊗ at 1) ⊗ at 2) refl

      turn : (a b c : ℤ) → (a *ℤ b) *ℤ c ≡ (a *ℤ c) *ℤ b
      turn a b c = ring (a ∷ b ∷ c ∷ []) ((at 0 ⊗ at 1) ⊗ at 2) ((at 0 ⊗ at 2) ⊗ at 1) refl

  second : pos ((q * q) * (q * q) * q) *ℤ (race_number r p' *ℤ pos (p.den * p.den)) ≡ pos ((p.den * p.den) * (p'.den * p'.den)) *ℤ race_gap r q j
  second = swap (pos ((q * q) * (q * q) * q)) (race_number r p') (pos (p.den * p.den)) ∙ ap (λ z. z *ℤ pos (p.den * p.den)) (sym (race_gap-number r p' q j s' e')) ∙ turn (pos (p'.den * p'.den)) (race_gap r q j) (pos (p.den * p.den))
    where
      swap : (a b c : ℤ) → a *ℤ (b *ℤ c) ≡ (a *ℤ b) *ℤ c
      swap a b c = ring (a ∷ b ∷ c ∷ []) (at 0 ⊗ (at 1 ⊗ at 2)) ((at 0 ⊗ at 1) ⊗ at 2) refl

      turn : (a b c : ℤ) → (a *ℤ b) *ℤ c ≡ (c *ℤ a) *ℤ b
      turn a b c = ring (a ∷ b ∷ c ∷ []) ((at 0 ⊗ at 1) ⊗ at 2) ((at 2 ⊗ at 0) ⊗ at 1) refl

  pub lower-gap : IsLower r p p' → race_gap r q i <ℤ race_gap r q j
  lower-gap h = lt-from_mul_ℤ ((p.den * p.den) * (p'.den * p'.den)) _ _ (rw (first, second) at (mul-lt_ℤ ((q * q) * (q * q) * q) _ _ (mul-pos (mul-pos (mul-pos sq sq) (mul-pos sq sq)) sq) h))

  pub as_low-gap : IsAsLow r p p' → race_gap r q i ≤ℤ race_gap r q j
  as_low-gap h = le-from_mul_ℤ ((p.den * p.den) * (p'.den * p'.den)) _ _ (mul-pos (mul-pos s s) (mul-pos s' s')) (rw (first, second) at (mul-le_ℤ ((q * q) * (q * q) * q) _ _ h))
