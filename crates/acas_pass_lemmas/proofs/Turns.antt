-- One step of the aim, the pull, the hold or the start rate changes the value of a flight by less than the thinnest puck is thick.
use Rattle.std.proofs.Common.{◌≡◌, ℕ, ◌+◌, ◌-◌, ◌*◌, ◌<◌, ◌≤◌, ◌⊎◌, ⊎_elim, refl, ap, arith, [], ◌∷◌, ℤ, pos, ◌+ℤ◌, ◌-ℤ◌, ◌*ℤ◌, ◌≤ℤ◌, ◌<ℤ◌, unsigned_abs, min, mul-pos, mul-le-mul, mul-le-mul_left}
use Rattle.std.proofs.lemmas.Int.{ints}
use Rattle.acas_frac.proofs.SignedProducts.{mul-le_ℤ}
use Rattle.acas_frac.proofs.IntRing.{at, num, ◌⊕◌, ◌⊖◌, ◌⊗◌, ring}
use Rattle.acas_frac.proofs.Orders.{by_above, by_below, cases_lt_ℤ}
use Rattle.acas_flight.proofs.Curves.{steady, approach-at_once}
use Rattle.acas_flight.proofs.Holding.{held-none}
use Rattle.acas_pass_lemmas.proofs.Changes.{longer_below_least, aim_below, aim_above, aim_across, start_below, hold_below, pull_below, le_by_gain}
use Rattle.acas_pass_lemmas.proofs.Falling.{longer_above, start_above, hold_above, pull_above}
use Rattle.acas_areas.specs.Value.{IsLessThanAbove, thinnest}
use Rattle.acas_flight.specs.Curves.{held, approach}
use Rattle.acas_areas.specs.Flights.{flight, value}
use Rattle.acas_pass_lemmas.proofs.Gains.{gain, room_rate}
use native.Mathlib.Nat.{mul-lt-mul_of_pos_left}
use Rattle.acas_units.specs.declared.limits.TheConstants.{WINDOW_SECONDS}
use Rattle.acas_areas.specs.declared.steps.TheConstants.{TIME_STEPS, PULL_STEPS, RATE_STEPS}
use Rattle.acas_areas.specs.Search.{fastest}

-- a gain of the climb alone, over the same pull
gain_of : (a c l : ℤ) (n D : ℕ) → c ≤ℤ (a +ℤ pos n) → n < thinnest * D → IsLessThanAbove thinnest (record { num = a -ℤ l; den = D }) (record { num = c -ℤ l; den = D })
gain_of a c l n D h k = gain (a -ℤ l) (c -ℤ l) n D (line a c l n h) k
  where
    line : (a c l : ℤ) (n : ℕ) → c ≤ℤ (a +ℤ pos n) → (c -ℤ l) ≤ℤ ((a -ℤ l) +ℤ pos n)
    line a c l n h = omega (arith, ints)

-- a gain of less than the thinnest puck from the pull l to the pull p
gain_across : (a c i : ℤ) (l p Q n : ℕ) → 0 < l → 0 < p → (pos l *ℤ c) ≤ℤ ((pos p *ℤ a) +ℤ pos ((l * p) * n)) → n < thinnest * Q →
    IsLessThanAbove thinnest (record { num = a -ℤ (pos l *ℤ i); den = Q * l }) (record { num = c -ℤ (pos p *ℤ i); den = Q * p })
gain_across a c i l p Q n sl sp h k =
    let some : 0 < Q = omega arith in
    let room : (Q * (l * p)) * n < (Q * (l * p)) * (thinnest * Q) = mul-lt-mul_of_pos_left k (mul-pos some (mul-pos sl sp)) in
    rw (left c i l p Q, right a i l p Q)
    (line (pos Q *ℤ (pos l *ℤ c)) (pos Q *ℤ (pos p *ℤ a)) (pos Q *ℤ ((pos l *ℤ pos p) *ℤ i)) ((Q * (l * p)) * n) ((Q * (l * p)) * (thinnest * Q)) (thinnest * ((Q * l) * (Q * p)))
    (rw (spread (pos p *ℤ a) Q (l * p) n) at (mul-le_ℤ Q (pos l *ℤ c) ((pos p *ℤ a) +ℤ pos ((l * p) * n)) h)) room (omega arith))
  where
    left : (c i : ℤ) (l p Q : ℕ) → (c -ℤ (pos p *ℤ i)) *ℤ pos (Q * l) ≡ (pos Q *ℤ (pos l *ℤ c)) -ℤ (pos Q *ℤ ((pos l *ℤ pos p) *ℤ i))
    left c i l p Q = ring (c ∷ i ∷ pos l ∷ pos p ∷ pos Q ∷ []) ((at 0 ⊖ (at 3 ⊗ at 1)) ⊗ (at 4 ⊗ at 2)) ((at 4 ⊗ (at 2 ⊗ at 0)) ⊖ (at 4 ⊗ ((at 2 ⊗ at 3) ⊗ at 1))) refl

    right : (a i : ℤ) (l p Q : ℕ) → (a -ℤ (pos l *ℤ i)) *ℤ pos (Q * p) ≡ (pos Q *ℤ (pos p *ℤ a)) -ℤ (pos Q *ℤ ((pos l *ℤ pos p) *ℤ i))
    right a i l p Q = ring (a ∷ i ∷ pos l ∷ pos p ∷ pos Q ∷ []) ((at 0 ⊖ (at 2 ⊗ at 1)) ⊗ (at 4 ⊗ at 3)) ((at 4 ⊗ (at 3 ⊗ at 0)) ⊖ (at 4 ⊗ ((at 2 ⊗ at 3) ⊗ at 1))) refl

    spread : (x : ℤ) (Q m n : ℕ) → pos Q *ℤ (x +ℤ pos (m * n)) ≡ (pos Q *ℤ x) +ℤ pos ((Q * m) * n)
    spread x Q m n = ring (x ∷ pos Q ∷ pos m ∷ pos n ∷ []) (at 1 ⊗ (at 0 ⊕ (at 2 ⊗ at 3))) ((at 1 ⊗ at 0) ⊕ ((at 1 ⊗ at 2) ⊗ at 3)) refl

    line : (x y z : ℤ) (m r s : ℕ) → x ≤ℤ (y +ℤ pos m) → m < r → r ≡ s → (x -ℤ z) <ℤ ((y -ℤ z) +ℤ pos s)
    line x y z m r s h k e = omega (arith, ints)

-- ---- the aim, d higher: a flight that holds its rate is below each aim

pub higher_aim : (q : ℕ) (h v w k : ℤ) (b g t d : ℕ) → 0 < q → 0 < b → RATE_STEPS * d ≤ q * q → t ≤ WINDOW_SECONDS * q → (v ≤ℤ k) ⊎ (g ≡ 0) →
    IsLessThanAbove thinnest (value q (flight t h v w k b g)) (value q (flight t h v w (k +ℤ pos d) b g))
higher_aim q h v w k b g t d p s r u o =
    gain_of (held v k b g t) (held v (k +ℤ pos d) b g t) (pos b *ℤ ((h *ℤ pos (q * q * q)) +ℤ ((pos 2 *ℤ w) *ℤ pos t))) ((d + d) * (b * t)) (q * q * q * b)
    (⊎_elim (λ i. below_all i) (λ e. ⊎_elim (λ i. below_all (omega (arith, ints))) (λ i. ⊎_elim (λ j. across i j e) (λ j. above j e) (cases_lt_ℤ v (k +ℤ pos d))) (cases_lt_ℤ v k)) o)
    (room_rate q b t d p s r u)
  where
    below_all : v ≤ℤ k → held v (k +ℤ pos d) b g t ≤ℤ (held v k b g t +ℤ pos ((d + d) * (b * t)))
    below_all i = by_below k v i (λ x e. from x e (omega (arith, ints)))
      where
        from : (x : ℕ) → v ≡ k -ℤ pos x → v ≡ (k +ℤ pos d) -ℤ pos (x + d) → held v (k +ℤ pos d) b g t ≤ℤ (held v k b g t +ℤ pos ((d + d) * (b * t)))
        from x e f = rw (ap (λ z. held z (k +ℤ pos d) b g t) f, ap (λ z. held z k b g t) e) (aim_below k x b g t d)

    above : (k +ℤ pos d) ≤ℤ v → g ≡ 0 → held v (k +ℤ pos d) b g t ≤ℤ (held v k b g t +ℤ pos ((d + d) * (b * t)))
    above i e = rw (e, held-none, held-none) (by_above (k +ℤ pos d) v i (λ x f. from x f (omega (arith, ints))))
      where
        from : (x : ℕ) → v ≡ (k +ℤ pos d) +ℤ pos x → v ≡ k +ℤ pos (x + d) → approach v (k +ℤ pos d) b t ≤ℤ (approach v k b t +ℤ pos ((d + d) * (b * t)))
        from x f f' = rw (ap (λ z. approach z (k +ℤ pos d) b t) f, ap (λ z. approach z k b t) f') (aim_above k x b t d)

    across : k ≤ℤ v → v <ℤ (k +ℤ pos d) → g ≡ 0 → held v (k +ℤ pos d) b g t ≤ℤ (held v k b g t +ℤ pos ((d + d) * (b * t)))
    across i j e = rw (e, held-none v k b t) (by_above k v i (λ x f. by_below (k +ℤ pos d) v (omega (arith, ints)) (λ y f'. from x y f f' (omega (arith, ints)))))
      where
        from : (x y : ℕ) → v ≡ k +ℤ pos x → v ≡ (k +ℤ pos d) -ℤ pos y → x + y ≡ d → held v (k +ℤ pos d) b 0 t ≤ℤ (approach v k b t +ℤ pos ((d + d) * (b * t)))
        from x y f f' m = rw (ap (λ z. held z (k +ℤ pos d) b 0 t) f', ap (λ z. approach z k b t) f) (aim_across k x y b 0 t d m)

-- ---- the pull, stronger from below the aim and weaker from above it

room_pull : (q t g e : ℕ) → 0 < q → PULL_STEPS * e ≤ q → t ≤ WINDOW_SECONDS * q → ((t - g) * (t - g)) * e < thinnest * (q * q * q)
room_pull q t g e p r u =
    let l : t - g ≤ WINDOW_SECONDS * q = omega arith in
    let m : ((t - g) * (t - g)) * (PULL_STEPS * e) ≤ ((WINDOW_SECONDS * q) * (WINDOW_SECONDS * q)) * q = mul-le-mul (mul-le-mul l l) r in
    let z : 0 < q * q * q = mul-pos (mul-pos p p) p in
    omega arith

pub stronger : (q : ℕ) (h v w k : ℤ) (b g t e : ℕ) → 0 < q → 0 < b → PULL_STEPS * e ≤ q → t ≤ WINDOW_SECONDS * q → v ≤ℤ k → IsLessThanAbove thinnest (value q (flight t h v w k b g)) (value q (flight t h v w k (b + e) g))
stronger q h v w k b g t e p s r u i =
    gain_across (held v k b g t) (held v k (b + e) g t) ((h *ℤ pos (q * q * q)) +ℤ ((pos 2 *ℤ w) *ℤ pos t)) b (b + e) (q * q * q) (((t - g) * (t - g)) * e) s (omega arith)
    (by_below k v i (λ x f. rw f (pull_below k x b e g t))) (room_pull q t g e p r u)

pub weaker : (q : ℕ) (h v w k : ℤ) (b g t e : ℕ) → 0 < q → 0 < b → PULL_STEPS * e ≤ q → t ≤ WINDOW_SECONDS * q → k ≤ℤ v → IsLessThanAbove thinnest (value q (flight t h v w k (b + e) g)) (value q (flight t h v w k b g))
weaker q h v w k b g t e p s r u i =
    gain_across (held v k (b + e) g t) (held v k b g t) ((h *ℤ pos (q * q * q)) +ℤ ((pos 2 *ℤ w) *ℤ pos t)) (b + e) b (q * q * q) (((t - g) * (t - g)) * e) (omega arith) s
    (by_above k v i (λ x f. let turn : (b + e) * b ≡ b * (b + e) = omega arith in rw (f, turn) (pull_above k x b e g t))) (room_pull q t g e p r u)

-- ---- the hold, shorter from below the aim and longer from above it

room_hold : (q b x d : ℕ) → 0 < q → 0 < b → TIME_STEPS * d ≤ q → x ≤ 2 * fastest * (q * q) → (x + x) * (b * d) < thinnest * (q * q * q * b)
room_hold q b x d p s r u =
    let m : x * (TIME_STEPS * d) ≤ (2 * fastest * (q * q)) * q = mul-le-mul u r in
    let n : b * (x * (TIME_STEPS * d)) ≤ b * ((2 * fastest * (q * q)) * q) = mul-le-mul_left b m in
    let z : 0 < q * q * q * b = mul-pos (mul-pos (mul-pos p p) p) s in
    omega arith

pub shorter_hold : (q : ℕ) (h v w k : ℤ) (b g t d : ℕ) → 0 < q → 0 < b → TIME_STEPS * d ≤ q → unsigned_abs v ≤ fastest * (q * q) → unsigned_abs k ≤ fastest * (q * q) → v ≤ℤ k →
    IsLessThanAbove thinnest (value q (flight t h v w k b (g + d))) (value q (flight t h v w k b g))
shorter_hold q h v w k b g t d p s r hv hk i =
    by_below k v i (λ x f.
    gain_of (held v k b (g + d) t) (held v k b g t) (pos b *ℤ ((h *ℤ pos (q * q * q)) +ℤ ((pos 2 *ℤ w) *ℤ pos t))) ((x + x) * (b * d)) (q * q * q * b)
    (rw f (hold_below k x b g t d)) (room_hold q b x d p s r (omega (arith, ints))))

pub longer_hold : (q : ℕ) (h v w k : ℤ) (b g t d : ℕ) → 0 < q → 0 < b → TIME_STEPS * d ≤ q → unsigned_abs v ≤ fastest * (q * q) → unsigned_abs k ≤ fastest * (q * q) → k ≤ℤ v →
    IsLessThanAbove thinnest (value q (flight t h v w k b g)) (value q (flight t h v w k b (g + d)))
longer_hold q h v w k b g t d p s r hv hk i =
    by_above k v i (λ x f.
    gain_of (held v k b g t) (held v k b (g + d) t) (pos b *ℤ ((h *ℤ pos (q * q * q)) +ℤ ((pos 2 *ℤ w) *ℤ pos t))) ((x + x) * (b * d)) (q * q * q * b)
    (rw f (hold_above k x b g t d)) (room_hold q b x d p s r (omega (arith, ints))))

-- ---- the start rate, d higher

pub higher_below : (q : ℕ) (h v w k : ℤ) (b g t d : ℕ) → 0 < q → 0 < b → RATE_STEPS * d ≤ q * q → t ≤ WINDOW_SECONDS * q → (v +ℤ pos d) ≤ℤ k → IsLessThanAbove thinnest (value q (flight t h v w k b g)) (value q (flight t h (v +ℤ pos d) w k b g))
higher_below q h v w k b g t d p s r u i =
    by_below k (v +ℤ pos d) i (λ x f. from x f (omega (arith, ints)))
  where
    from : (x : ℕ) → v +ℤ pos d ≡ k -ℤ pos x → v ≡ k -ℤ pos (x + d) → IsLessThanAbove thinnest (value q (flight t h v w k b g)) (value q (flight t h (v +ℤ pos d) w k b g))
    from x f f' =
        gain_of (held v k b g t) (held (v +ℤ pos d) k b g t) (pos b *ℤ ((h *ℤ pos (q * q * q)) +ℤ ((pos 2 *ℤ w) *ℤ pos t))) ((d + d) * (b * t)) (q * q * q * b)
        (rw (ap (λ z. held z k b g t) f, ap (λ z. held z k b g t) f') (start_below k x b g t d)) (room_rate q b t d p s r u)

pub higher_above : (q : ℕ) (h v w k : ℤ) (b g t d : ℕ) → 0 < q → 0 < b → RATE_STEPS * d ≤ q * q → t ≤ WINDOW_SECONDS * q → k ≤ℤ v → IsLessThanAbove thinnest (value q (flight t h v w k b g)) (value q (flight t h (v +ℤ pos d) w k b g))
higher_above q h v w k b g t d p s r u i =
    by_above k v i (λ x f. from x f (omega (arith, ints)))
  where
    from : (x : ℕ) → v ≡ k +ℤ pos x → v +ℤ pos d ≡ k +ℤ pos (x + d) → IsLessThanAbove thinnest (value q (flight t h v w k b g)) (value q (flight t h (v +ℤ pos d) w k b g))
    from x f f' =
        gain_of (held v k b g t) (held (v +ℤ pos d) k b g t) (pos b *ℤ ((h *ℤ pos (q * q * q)) +ℤ ((pos 2 *ℤ w) *ℤ pos t))) ((d + d) * (b * t)) (q * q * q * b)
        (rw (ap (λ z. held z k b g t) f', ap (λ z. held z k b g t) f) (start_above k x b g t d)) (room_rate q b t d p s r u)

held-at_zero : (v k : ℤ) (b g : ℕ) → held v k b g 0 ≡ pos 0
held-at_zero v k b g =
    let none : min 0 g ≡ 0 = omega arith in
    let rest : 0 - g ≡ 0 = omega arith in
    rw (none, rest, approach-at_once v k b) (ring (v ∷ pos b ∷ []) ((((num (pos 2) ⊗ at 0) ⊗ num (pos 0)) ⊗ at 1) ⊕ num (pos 0)) (num (pos 0)) refl)

zero_plus : (t : ℕ) → 0 + t ≡ t
zero_plus t = omega arith

-- from below its aim a flight climbs at least as at its start rate, and from above it at most
at_least_steady : (k : ℤ) (x b g t : ℕ) → steady (k -ℤ pos x) t b ≤ℤ held (k -ℤ pos x) k b g t
at_least_steady k x b g t = line _ _ _ (held-at_zero (k -ℤ pos x) k b g) (rw (zero_plus t) at (longer_below_least k x b g 0 t))
  where
    line : (h s l : ℤ) → h ≡ pos 0 → (h +ℤ s) ≤ℤ l → s ≤ℤ l
    line h s l e i = omega (arith, ints)

at_most_steady : (k : ℤ) (u b g t : ℕ) → held (k +ℤ pos u) k b g t ≤ℤ steady (k +ℤ pos u) t b
at_most_steady k u b g t = line _ _ _ (held-at_zero (k +ℤ pos u) k b g) (rw (zero_plus t) at (longer_above k u b g 0 t))
  where
    line : (h s l : ℤ) → h ≡ pos 0 → l ≤ℤ (h +ℤ s) → l ≤ℤ s
    line h s l e i = omega (arith, ints)

room_across : (q t d : ℕ) → 0 < q → RATE_STEPS * d ≤ q * q → t ≤ WINDOW_SECONDS * q → 2 * (d * t) < thinnest * (q * q * q)
room_across q t d p r u =
    let m : (RATE_STEPS * d) * t ≤ (q * q) * (WINDOW_SECONDS * q) = mul-le-mul r u in
    let z : 0 < q * q * q = mul-pos (mul-pos p p) p in
    omega arith

-- over the aim, where pull and hold change too
pub higher_across : (q : ℕ) (h v w k : ℤ) (b g b' g' t d : ℕ) → 0 < q → 0 < b → 0 < b' → RATE_STEPS * d ≤ q * q → t ≤ WINDOW_SECONDS * q → v ≤ℤ k → k ≤ℤ (v +ℤ pos d) →
    IsLessThanAbove thinnest (value q (flight t h v w k b g)) (value q (flight t h (v +ℤ pos d) w k b' g'))
higher_across q h v w k b g b' g' t d p s s' r u i j =
    gain_across (held v k b g t) (held (v +ℤ pos d) k b' g' t) ((h *ℤ pos (q * q * q)) +ℤ ((pos 2 *ℤ w) *ℤ pos t)) b b' (q * q * q) (2 * (d * t)) s s'
    (le_by_gain _ _ _ _ ((b * b') * (2 * (d * t))) (mul-le_ℤ b (held (v +ℤ pos d) k b' g' t) (steady (v +ℤ pos d) t b') top) (mul-le_ℤ b' (steady v t b) (held v k b g t) bottom) (swap v d t b b'))
    (room_across q t d p r u)
  where
    top : held (v +ℤ pos d) k b' g' t ≤ℤ steady (v +ℤ pos d) t b'
    top = by_above k (v +ℤ pos d) j (λ x f. rw f (at_most_steady k x b' g' t))

    bottom : steady v t b ≤ℤ held v k b g t
    bottom = by_below k v i (λ x f. rw f (at_least_steady k x b g t))

    swap : (v : ℤ) (d t b b' : ℕ) → pos b *ℤ steady (v +ℤ pos d) t b' ≡ (pos b' *ℤ steady v t b) +ℤ pos ((b * b') * (2 * (d * t)))
    swap v d t b b' = ring (v ∷ pos d ∷ pos t ∷ pos b ∷ pos b' ∷ [])
        (at 3 ⊗ (((num (pos 2) ⊗ (at 0 ⊕ at 1)) ⊗ at 2) ⊗ at 4))
        ((at 4 ⊗ (((num (pos 2) ⊗ at 0) ⊗ at 2) ⊗ at 3)) ⊕ ((at 3 ⊗ at 4) ⊗ (num (pos 2) ⊗ (at 1 ⊗ at 2))))
        refl
