-- One step of a pass changes the value of its flight by less than the thinnest puck is thick.
use Rattle.std.proofs.Common.{◌≡◌, ℕ, ◌+◌, ◌*◌, ◌<◌, ◌≤◌, ⊎_elim, refl, arith, [], ◌∷◌, ℤ, pos, neg_ℤ, ◌+ℤ◌, ◌-ℤ◌, ◌*ℤ◌, ◌≤ℤ◌, ◌<ℤ◌, unsigned_abs, mul-pos, mul-le-mul, mul-le-mul_left}
use Rattle.std.proofs.lemmas.Int.{ints}
use Rattle.acas_frac.proofs.SignedProducts.{mul-le_ℤ, mul-lt_ℤ}
use Rattle.acas_frac.proofs.IntRing.{at, num, ◌⊕◌, ◌⊖◌, ◌⊗◌, ring}
use Rattle.acas_frac.proofs.Orders.{by_above, by_below, cases_lt_ℤ}
use Rattle.acas_flight.proofs.Curves.{steady}
use Rattle.acas_flight_lemmas.proofs.Mirror.{steady_turned}
use Rattle.acas_pass_lemmas.proofs.Changes.{longer_below, longer_below_least}
use Rattle.acas_pass_lemmas.proofs.Falling.{longer_above, longer_above_least}
use Rattle.acas_areas.specs.Value.{IsLessThanAbove, thinnest}
use Rattle.acas_flight.specs.Curves.{held}
use Rattle.acas_areas.specs.Flights.{flight, value}
use lib.IntN.{*ℤ_comm}
use Rattle.acas_units.specs.declared.limits.TheConstants.{WINDOW_SECONDS}
use Rattle.acas_areas.specs.declared.steps.TheConstants.{TIME_STEPS, RATE_STEPS}
use Rattle.acas_areas.specs.Search.{fastest}

-- a gain of less than the thinnest puck over the same denominator
pub gain : (n m : ℤ) (g D : ℕ) → m ≤ℤ (n +ℤ pos g) → g < thinnest * D → IsLessThanAbove thinnest (record { num = n; den = D }) (record { num = m; den = D })
gain n m g D h k =
    let p : 0 < D = omega arith in
    let s = mul-lt_ℤ D m (n +ℤ pos (thinnest * D)) p (line n m g (thinnest * D) h k) in
    rw (*ℤ_comm (pos D) m, spread n D) at s
  where
    line : (n m : ℤ) (g r : ℕ) → m ≤ℤ (n +ℤ pos g) → g < r → m <ℤ (n +ℤ pos r)
    line n m g r h k = omega (arith, ints)

    spread : (n : ℤ) (D : ℕ) → pos D *ℤ (n +ℤ pos (thinnest * D)) ≡ (n *ℤ pos D) +ℤ pos (thinnest * (D * D))
    spread n D = ring (n ∷ pos D ∷ []) (at 1 ⊗ (at 0 ⊕ (num (pos thinnest) ⊗ at 1))) ((at 0 ⊗ at 1) ⊕ (num (pos thinnest) ⊗ (at 1 ⊗ at 1))) refl

-- the most that a rate of at most c in size climbs
pub steady_most : (m : ℤ) (c d b : ℕ) → unsigned_abs m ≤ c → steady m d b ≤ℤ pos (2 * (c * (d * b)))
steady_most m c d b h = rw (form m d b) (rw (last c d b) (mul-le_ℤ (2 * (d * b)) m (pos c) (omega (arith, ints))))
  where
    form : (m : ℤ) (d b : ℕ) → steady m d b ≡ pos (2 * (d * b)) *ℤ m
    form m d b = ring (m ∷ pos d ∷ pos b ∷ []) (((num (pos 2) ⊗ at 0) ⊗ at 1) ⊗ at 2) ((num (pos 2) ⊗ (at 1 ⊗ at 2)) ⊗ at 0) refl

    last : (c d b : ℕ) → pos (2 * (c * (d * b))) ≡ pos (2 * (d * b)) *ℤ pos c
    last c d b = ring (pos c ∷ pos d ∷ pos b ∷ []) (num (pos 2) ⊗ (at 0 ⊗ (at 1 ⊗ at 2))) ((num (pos 2) ⊗ (at 1 ⊗ at 2)) ⊗ at 0) refl

pub steady_least : (m : ℤ) (c d b : ℕ) → unsigned_abs m ≤ c → neg_ℤ (pos (2 * (c * (d * b)))) ≤ℤ steady m d b
steady_least m c d b h = turn (steady m d b) (steady (neg_ℤ m) d b) (2 * (c * (d * b))) (steady_turned m d b) (steady_most (neg_ℤ m) c d b (omega (arith, ints)))
  where
    turn : (a b : ℤ) (n : ℕ) → b ≡ neg_ℤ a → b ≤ℤ pos n → neg_ℤ (pos n) ≤ℤ a
    turn a b n e h = omega (arith, ints)

-- in the time d more, either way
module _ (v k : ℤ) (b g t d c : ℕ) (hv : unsigned_abs v ≤ c) (hk : unsigned_abs k ≤ c) where
  plus : (l h s : ℤ) (n : ℕ) → l ≤ℤ (h +ℤ s) → s ≤ℤ pos n → l ≤ℤ (h +ℤ pos n)
  plus l h s n i j = omega (arith, ints)

  less : (l h s : ℤ) (n : ℕ) → (h +ℤ s) ≤ℤ l → neg_ℤ (pos n) ≤ℤ s → h ≤ℤ (l +ℤ pos n)
  less l h s n i j = omega (arith, ints)

  pub held_later : held v k b g (t + d) ≤ℤ (held v k b g t +ℤ pos (2 * (c * (d * b))))
  held_later = ⊎_elim
      (λ h. by_below k v (omega (arith, ints)) (λ x e. below x e))
      (λ h. by_above k v h (λ x e. above x e))
      (cases_lt_ℤ v k)
    where
      below : (x : ℕ) → v ≡ k -ℤ pos x → held v k b g (t + d) ≤ℤ (held v k b g t +ℤ pos (2 * (c * (d * b))))
      below x e = rw e (plus _ _ _ _ (longer_below k x b g t d) (steady_most k c d b hk))

      above : (x : ℕ) → v ≡ k +ℤ pos x → held v k b g (t + d) ≤ℤ (held v k b g t +ℤ pos (2 * (c * (d * b))))
      above x e = rw e (plus _ _ _ _ (longer_above k x b g t d) (steady_most (k +ℤ pos x) c d b (rw e at hv)))

  pub held_sooner : held v k b g t ≤ℤ (held v k b g (t + d) +ℤ pos (2 * (c * (d * b))))
  held_sooner = ⊎_elim
      (λ h. by_below k v (omega (arith, ints)) (λ x e. below x e))
      (λ h. by_above k v h (λ x e. above x e))
      (cases_lt_ℤ v k)
    where
      below : (x : ℕ) → v ≡ k -ℤ pos x → held v k b g t ≤ℤ (held v k b g (t + d) +ℤ pos (2 * (c * (d * b))))
      below x e = rw e (less _ _ _ _ (longer_below_least k x b g t d) (steady_least (k -ℤ pos x) c d b (rw e at hv)))

      above : (x : ℕ) → v ≡ k +ℤ pos x → held v k b g t ≤ℤ (held v k b g (t + d) +ℤ pos (2 * (c * (d * b))))
      above x e = rw e (less _ _ _ _ (longer_above_least k x b g t d) (steady_least k c d b hk))

-- the sizes of the steps: d is at most a step of time, e at most a step of rate
pub room_time : (q b d : ℕ) → 0 < q → 0 < b → TIME_STEPS * d ≤ q → 4 * fastest * ((q * q) * (d * b)) < thinnest * (q * q * q * b)
room_time q b d p s h =
    let m : (q * q * b) * (TIME_STEPS * d) ≤ (q * q * b) * q = mul-le-mul_left (q * q * b) h in
    let z : 0 < q * q * q * b = mul-pos (mul-pos (mul-pos p p) p) s in
    omega arith

pub room_rate : (q b t d : ℕ) → 0 < q → 0 < b → RATE_STEPS * d ≤ q * q → t ≤ WINDOW_SECONDS * q → (d + d) * (b * t) < thinnest * (q * q * q * b)
room_rate q b t d p s h k =
    let m : (RATE_STEPS * d) * t ≤ (q * q) * (WINDOW_SECONDS * q) = mul-le-mul h k in
    let n : b * ((RATE_STEPS * d) * t) ≤ b * ((q * q) * (WINDOW_SECONDS * q)) = mul-le-mul_left b m in
    let z : 0 < q * q * q * b = mul-pos (mul-pos (mul-pos p p) p) s in
    omega arith

-- ---- time

-- the line of the intruder, in the time d more
lines_later : (q : ℕ) (h w : ℤ) (b t d : ℕ) → pos b *ℤ ((h *ℤ pos (q * q * q)) +ℤ ((pos 2 *ℤ w) *ℤ pos (t + d))) ≡ (pos b *ℤ ((h *ℤ pos (q * q * q)) +ℤ ((pos 2 *ℤ w) *ℤ pos t))) +ℤ steady w d b
lines_later q h w b t d = ring (pos q ∷ h ∷ w ∷ pos b ∷ pos t ∷ pos d ∷ [])
    (at 3 ⊗ ((at 1 ⊗ ((at 0 ⊗ at 0) ⊗ at 0)) ⊕ ((num (pos 2) ⊗ at 2) ⊗ (at 4 ⊕ at 5))))
    ((at 3 ⊗ ((at 1 ⊗ ((at 0 ⊗ at 0) ⊗ at 0)) ⊕ ((num (pos 2) ⊗ at 2) ⊗ at 4))) ⊕ (((num (pos 2) ⊗ at 2) ⊗ at 5) ⊗ at 3))
    refl

pub later : (q : ℕ) (h v w k : ℤ) (b g t d : ℕ) → 0 < q → 0 < b → TIME_STEPS * d ≤ q → unsigned_abs v ≤ fastest * (q * q) → unsigned_abs k ≤ fastest * (q * q) → unsigned_abs w ≤ fastest * (q * q) →
    IsLessThanAbove thinnest (value q (flight t h v w k b g)) (value q (flight (t + d) h v w k b g))
later q h v w k b g t d p s r hv hk hw =
    gain _ _ (4 * fastest * ((q * q) * (d * b))) (q * q * q * b)
    (rw (lines_later q h w b t d) (add (held v k b g t) (held v k b g (t + d)) (pos b *ℤ ((h *ℤ pos (q * q * q)) +ℤ ((pos 2 *ℤ w) *ℤ pos t))) (steady w d b) _ _
    (held_later v k b g t d (fastest * (q * q)) hv hk) (steady_least w (fastest * (q * q)) d b hw) (omega arith)))
    (room_time q b d p s r)
  where
    add : (a b l s : ℤ) (n m : ℕ) → b ≤ℤ (a +ℤ pos n) → neg_ℤ (pos n) ≤ℤ s → n + n ≡ m → (b -ℤ (l +ℤ s)) ≤ℤ ((a -ℤ l) +ℤ pos m)
    add a b l s n m i j e = omega (arith, ints)

pub sooner : (q : ℕ) (h v w k : ℤ) (b g t d : ℕ) → 0 < q → 0 < b → TIME_STEPS * d ≤ q → unsigned_abs v ≤ fastest * (q * q) → unsigned_abs k ≤ fastest * (q * q) → unsigned_abs w ≤ fastest * (q * q) →
    IsLessThanAbove thinnest (value q (flight (t + d) h v w k b g)) (value q (flight t h v w k b g))
sooner q h v w k b g t d p s r hv hk hw =
    gain _ _ (4 * fastest * ((q * q) * (d * b))) (q * q * q * b)
    (rw (lines_later q h w b t d) (add (held v k b g t) (held v k b g (t + d)) (pos b *ℤ ((h *ℤ pos (q * q * q)) +ℤ ((pos 2 *ℤ w) *ℤ pos t))) (steady w d b) _ _
    (held_sooner v k b g t d (fastest * (q * q)) hv hk) (steady_most w (fastest * (q * q)) d b hw) (omega arith)))
    (room_time q b d p s r)
  where
    add : (a b l s : ℤ) (n m : ℕ) → a ≤ℤ (b +ℤ pos n) → s ≤ℤ pos n → n + n ≡ m → (a -ℤ l) ≤ℤ ((b -ℤ (l +ℤ s)) +ℤ pos m)
    add a b l s n m i j e = omega (arith, ints)

-- ---- altitude and the intruder's rate, downwards

pub lower : (q : ℕ) (h v w k : ℤ) (b g t d : ℕ) → 0 < q → 0 < b → d ≤ 1 → IsLessThanAbove thinnest (value q (flight t h v w k b g)) (value q (flight t (h -ℤ pos d) v w k b g))
lower q h v w k b g t d p s r =
    gain _ _ (q * q * q * b) (q * q * q * b)
    (rw (lines q h w b t d) (add (held v k b g t) (pos b *ℤ ((h *ℤ pos (q * q * q)) +ℤ ((pos 2 *ℤ w) *ℤ pos t))) ((q * q * q * b) * d) _ (let m : (q * q * q * b) * d ≤ (q * q * q * b) * 1 = mul-le-mul_left (q * q * q * b) r in omega arith)))
    (let z : 0 < q * q * q * b = mul-pos (mul-pos (mul-pos p p) p) s in omega arith)
  where
    lines : (q : ℕ) (h w : ℤ) (b t d : ℕ) → pos b *ℤ (((h -ℤ pos d) *ℤ pos (q * q * q)) +ℤ ((pos 2 *ℤ w) *ℤ pos t)) ≡ (pos b *ℤ ((h *ℤ pos (q * q * q)) +ℤ ((pos 2 *ℤ w) *ℤ pos t))) -ℤ pos ((q * q * q * b) * d)
    lines q h w b t d = ring (pos q ∷ h ∷ w ∷ pos b ∷ pos t ∷ pos d ∷ [])
        (at 3 ⊗ (((at 1 ⊖ at 5) ⊗ ((at 0 ⊗ at 0) ⊗ at 0)) ⊕ ((num (pos 2) ⊗ at 2) ⊗ at 4)))
        ((at 3 ⊗ ((at 1 ⊗ ((at 0 ⊗ at 0) ⊗ at 0)) ⊕ ((num (pos 2) ⊗ at 2) ⊗ at 4))) ⊖ ((((at 0 ⊗ at 0) ⊗ at 0) ⊗ at 3) ⊗ at 5))
        refl

    add : (a l : ℤ) (n m : ℕ) → n ≤ m → (a -ℤ (l -ℤ pos n)) ≤ℤ ((a -ℤ l) +ℤ pos m)
    add a l n m h = omega (arith, ints)

pub slower_intruder : (q : ℕ) (h v w k : ℤ) (b g t d : ℕ) → 0 < q → 0 < b → RATE_STEPS * d ≤ q * q → t ≤ WINDOW_SECONDS * q → IsLessThanAbove thinnest (value q (flight t h v w k b g)) (value q (flight t h v (w -ℤ pos d) k b g))
slower_intruder q h v w k b g t d p s r u =
    gain _ _ ((d + d) * (b * t)) (q * q * q * b)
    (rw (lines q h w b t d) (add (held v k b g t) (pos b *ℤ ((h *ℤ pos (q * q * q)) +ℤ ((pos 2 *ℤ w) *ℤ pos t))) ((d + d) * (b * t))))
    (room_rate q b t d p s r u)
  where
    lines : (q : ℕ) (h w : ℤ) (b t d : ℕ) → pos b *ℤ ((h *ℤ pos (q * q * q)) +ℤ ((pos 2 *ℤ (w -ℤ pos d)) *ℤ pos t)) ≡ (pos b *ℤ ((h *ℤ pos (q * q * q)) +ℤ ((pos 2 *ℤ w) *ℤ pos t))) -ℤ pos ((d + d) * (b * t))
    lines q h w b t d = ring (pos q ∷ h ∷ w ∷ pos b ∷ pos t ∷ pos d ∷ [])
        (at 3 ⊗ ((at 1 ⊗ ((at 0 ⊗ at 0) ⊗ at 0)) ⊕ ((num (pos 2) ⊗ (at 2 ⊖ at 5)) ⊗ at 4)))
        ((at 3 ⊗ ((at 1 ⊗ ((at 0 ⊗ at 0) ⊗ at 0)) ⊕ ((num (pos 2) ⊗ at 2) ⊗ at 4))) ⊖ ((at 5 ⊕ at 5) ⊗ (at 3 ⊗ at 4)))
        refl

    add : (a l : ℤ) (n : ℕ) → (a -ℤ (l -ℤ pos n)) ≤ℤ ((a -ℤ l) +ℤ pos n)
    add a l n = omega (arith, ints)
