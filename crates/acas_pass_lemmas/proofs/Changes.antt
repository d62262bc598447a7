-- How far a curve moves when one quantity of a flight does. Each bound is over the pull of the curve.
use Rattle.std.proofs.Common.{◌≡◌, ℕ, ◌+◌, ◌-◌, ◌*◌, ◌≤◌, refl, ap, arith, [], ◌∷◌, ℤ, pos, ◌+ℤ◌, ◌-ℤ◌, ◌*ℤ◌, ◌≤ℤ◌, min, mul-le-mul_left, mul-le-mul_right}
use Rattle.std.proofs.lemmas.Int.{ints}
use Rattle.acas_frac.proofs.IntRing.{at, num, ◌⊕◌, ◌⊖◌, ◌⊗◌, ring}
use Rattle.acas_frac.proofs.Squares.{sq, sq_le, hold_step, nearer_start}
use Rattle.acas_pass_lemmas.proofs.Deficits.{start_change, pull_change}
use Rattle.acas_flight.proofs.Curves.{steady, approach_below, approach_above}
use Rattle.acas_flight.proofs.Steps.{steady-add}
use Rattle.acas_flight.proofs.Holding.{steady_below}
use Rattle.acas_flight_lemmas.proofs.Rising.{held_below, held_at_most, approach_at_least}
use Rattle.acas_flight_lemmas.proofs.Tangents.{faster, parts_of}
use Rattle.acas_flight.specs.Curves.{approach, held}

-- ---- time

-- From below its aim a curve climbs, in the time d more, at most as at the aim's rate.
pub longer_below : (k : ℤ) (x b g t d : ℕ) → held (k -ℤ pos x) k b g (t + d) ≤ℤ (held (k -ℤ pos x) k b g t +ℤ steady k d b)
longer_below k x b g t d =
    rw (held_below k x b g (t + d), held_below k x b g t, steady-add k t d b)
    (line (steady k t b) (steady k d b) ((x + x) * (b * min (t + d) g)) ((x + x) * (b * min t g)) (x * x) (sq (x - b * ((t + d) - g))) (sq (x - b * (t - g)))
    (mul-le-mul_left (x + x) (mul-le-mul_left b (omega arith)))
    (sq_le (x - b * ((t + d) - g)) (x - b * (t - g)) (let h : b * (t - g) ≤ b * ((t + d) - g) = mul-le-mul_left b (omega arith) in omega arith)))
  where
    line : (st sd : ℤ) (h h' xx i j : ℕ) → h' ≤ h → i ≤ j → ((((sd +ℤ st) -ℤ pos h) -ℤ pos xx) +ℤ pos i) ≤ℤ ((((st -ℤ pos h') -ℤ pos xx) +ℤ pos j) +ℤ sd)
    line st sd h h' xx i j a c = omega (arith, ints)

-- and at least as at its start rate
pub longer_below_least : (k : ℤ) (x b g t d : ℕ) → (held (k -ℤ pos x) k b g t +ℤ steady (k -ℤ pos x) d b) ≤ℤ held (k -ℤ pos x) k b g (t + d)
longer_below_least k x b g t d =
    rw (held_below k x b g (t + d), held_below k x b g t, steady-add k t d b, steady_below k x d b)
    (line (steady k t b) (steady k d b) ((x + x) * (b * d)) ((x + x) * (b * min (t + d) g)) ((x + x) * (b * min t g)) (x * x) (sq (x - b * ((t + d) - g))) (sq (x - b * (t - g)))
    (parts (min (t + d) g - min t g) (((t + d) - g) - (t - g)) (omega arith) (omega arith) (omega arith)))
  where
    parts : (i j : ℕ) → min (t + d) g ≡ min t g + i → (t + d) - g ≡ (t - g) + j → d ≡ i + j →
        (x + x) * (b * min (t + d) g) + sq (x - b * (t - g)) ≤ ((x + x) * (b * min t g) + sq (x - b * ((t + d) - g))) + (x + x) * (b * d)
    parts i j e f h =
        let m : b * ((t - g) + j) ≡ b * (t - g) + b * j = omega arith in
        rw (e, f, h) (rw m (omega (arith, hold_step x (b * (t - g)) (b * j))))

    line : (st sd : ℤ) (n h h' xx i j : ℕ) → h + j ≤ (h' + i) + n → ((((st -ℤ pos h') -ℤ pos xx) +ℤ pos j) +ℤ (sd -ℤ pos n)) ≤ℤ ((((sd +ℤ st) -ℤ pos h) -ℤ pos xx) +ℤ pos i)
    line st sd n h h' xx i j a = omega (arith, ints)

-- ---- the aim, from k to k + d

pub aim_below : (k : ℤ) (x b g t d : ℕ) → held ((k +ℤ pos d) -ℤ pos (x + d)) (k +ℤ pos d) b g t ≤ℤ (held (k -ℤ pos x) k b g t +ℤ pos ((d + d) * (b * t)))
aim_below k x b g t d =
    rw (held_below (k +ℤ pos d) (x + d) b g t, held_below k x b g t, faster k d t b)
    (line (steady k t b) ((d + d) * (b * t)) (((x + d) + (x + d)) * (b * min t g)) ((x + x) * (b * min t g)) ((x + d) * (x + d)) (x * x) (sq ((x + d) - b * (t - g))) (sq (x - b * (t - g)))
    (mul-le-mul_right (b * min t g) (omega arith)) (nearer_start (x + d) x (b * (t - g)) (omega arith)))
  where
    line : (s : ℤ) (n h h' xx yy i j : ℕ) → h' ≤ h → i + yy ≤ j + xx → ((((s +ℤ pos n) -ℤ pos h) -ℤ pos xx) +ℤ pos i) ≤ℤ ((((s -ℤ pos h') -ℤ pos yy) +ℤ pos j) +ℤ pos n)
    line s n h h' xx yy i j a c = omega (arith, ints)

pub aim_above : (k : ℤ) (u b t d : ℕ) → approach ((k +ℤ pos d) +ℤ pos u) (k +ℤ pos d) b t ≤ℤ (approach (k +ℤ pos (u + d)) k b t +ℤ pos ((d + d) * (b * t)))
aim_above k u b t d =
    rw (approach_above (k +ℤ pos d) u b t, approach_above k (u + d) b t, faster k d t b)
    (line (steady k t b) ((d + d) * (b * t)) (u * u) ((u + d) * (u + d)) (sq (u - b * t)) (sq ((u + d) - b * t)) (nearer_start (u + d) u (b * t) (omega arith)))
  where
    line : (s : ℤ) (n uu ww i j : ℕ) → j + uu ≤ i + ww → (((s +ℤ pos n) +ℤ pos uu) -ℤ pos i) ≤ℤ (((s +ℤ pos ww) -ℤ pos j) +ℤ pos n)
    line s n uu ww i j a = omega (arith, ints)

pub le_by_gain : (h sd s a : ℤ) (n : ℕ) → h ≤ℤ sd → s ≤ℤ a → sd ≡ s +ℤ pos n → h ≤ℤ (a +ℤ pos n)
le_by_gain h sd s a n i j f = omega (arith, ints)

-- the start rate is between the two aims
pub aim_across : (k : ℤ) (u x b g t d : ℕ) → u + x ≡ d → held ((k +ℤ pos d) -ℤ pos x) (k +ℤ pos d) b g t ≤ℤ (approach (k +ℤ pos u) k b t +ℤ pos ((d + d) * (b * t)))
aim_across k u x b g t d e =
    le_by_gain _ (steady (k +ℤ pos d) t b) (steady k t b) _ ((d + d) * (b * t)) (held_at_most (k +ℤ pos d) x b g t) (approach_at_least k u b t) (faster k d t b)

-- ---- the start rate, from x + d below the aim to x below it

pub start_below : (k : ℤ) (x b g t d : ℕ) → held (k -ℤ pos x) k b g t ≤ℤ (held (k -ℤ pos (x + d)) k b g t +ℤ pos ((d + d) * (b * t)))
start_below k x b g t d =
    rw (held_below k x b g t, held_below k (x + d) b g t)
    (line (steady k t b) ((d + d) * (b * t)) ((x + x) * (b * min t g)) (((x + d) + (x + d)) * (b * min t g)) (x * x) ((x + d) * (x + d)) (sq (x - b * (t - g))) (sq ((x + d) - b * (t - g)))
    (let e = ap (λ n. (d + d) * n) (parts_of b t g) in
    let c = start_change x d (b * (t - g)) in
    omega arith))
  where
    line : (s : ℤ) (n h h' xx yy i j : ℕ) → (h' + yy) + i ≤ ((h + xx) + j) + n → (((s -ℤ pos h) -ℤ pos xx) +ℤ pos i) ≤ℤ ((((s -ℤ pos h') -ℤ pos yy) +ℤ pos j) +ℤ pos n)
    line s n h h' xx yy i j a = omega (arith, ints)

-- ---- the hold, from g + d to g

pub hold_below : (k : ℤ) (x b g t d : ℕ) → held (k -ℤ pos x) k b g t ≤ℤ (held (k -ℤ pos x) k b (g + d) t +ℤ pos ((x + x) * (b * d)))
hold_below k x b g t d =
    rw (held_below k x b g t, held_below k x b (g + d) t)
    (line (steady k t b) ((x + x) * (b * d)) ((x + x) * (b * min t g)) ((x + x) * (b * min t (g + d))) (x * x) (sq (x - b * (t - g))) (sq (x - b * (t - (g + d))))
    (let m = mul-le-mul_left b m0 in let n = mul-le-mul_left (x + x) m in omega arith)
    (sq_le (x - b * (t - g)) (x - b * (t - (g + d))) (let h : b * (t - (g + d)) ≤ b * (t - g) = mul-le-mul_left b (omega arith) in omega arith)))
  where
    m0 : min t (g + d) ≤ min t g + d
    m0 = omega arith

    line : (s : ℤ) (n h h' xx i j : ℕ) → h' ≤ h + n → i ≤ j → (((s -ℤ pos h) -ℤ pos xx) +ℤ pos i) ≤ℤ ((((s -ℤ pos h') -ℤ pos xx) +ℤ pos j) +ℤ pos n)
    line s n h h' xx i j a c = omega (arith, ints)

-- ---- the pull, from b to b + e: the two climbs are compared over the product of the pulls

pull_swaps : (v : ℤ) (t b c : ℕ) → pos b *ℤ steady v t c ≡ pos c *ℤ steady v t b
pull_swaps v t b c = ring (v ∷ pos t ∷ pos b ∷ pos c ∷ [])
    (at 2 ⊗ (((num (pos 2) ⊗ at 0) ⊗ at 1) ⊗ at 3))
    (at 3 ⊗ (((num (pos 2) ⊗ at 0) ⊗ at 1) ⊗ at 2))
    refl

spread : (b p s : ℤ) (m n : ℕ) (c : ℕ) → b ≡ pos c → b *ℤ (p +ℤ ((s -ℤ pos m) +ℤ pos n)) ≡ (((b *ℤ p) +ℤ (b *ℤ s)) -ℤ pos (c * m)) +ℤ pos (c * n)
spread b p s m n c e = rw e (ring (pos c ∷ p ∷ s ∷ pos m ∷ pos n ∷ [])
    (at 0 ⊗ (at 1 ⊕ ((at 2 ⊖ at 3) ⊕ at 4)))
    ((((at 0 ⊗ at 1) ⊕ (at 0 ⊗ at 2)) ⊖ (at 0 ⊗ at 3)) ⊕ (at 0 ⊗ at 4))
    refl)

pub pull_below : (k : ℤ) (x b e g t : ℕ) → (pos b *ℤ held (k -ℤ pos x) k (b + e) g t) ≤ℤ ((pos (b + e) *ℤ held (k -ℤ pos x) k b g t) +ℤ pos ((b * (b + e)) * (((t - g) * (t - g)) * e)))
pull_below k x b e g t =
    rw (approach_below k x (b + e) (t - g), approach_below k x b (t - g))
    (rw (
      spread (pos b) (steady (k -ℤ pos x) (min t g) (b + e)) (steady k (t - g) (b + e)) (x * x) (sq (x - (b + e) * (t - g))) b refl,
      spread (pos (b + e)) (steady (k -ℤ pos x) (min t g) b) (steady k (t - g) b) (x * x) (sq (x - b * (t - g))) (b + e) refl,
      pull_swaps (k -ℤ pos x) (min t g) b (b + e),
      pull_swaps k (t - g) b (b + e),
    )
    (line (pos (b + e) *ℤ steady (k -ℤ pos x) (min t g) b) (pos (b + e) *ℤ steady k (t - g) b) (b * (x * x)) ((b + e) * (x * x)) (b * sq (x - (b + e) * (t - g))) ((b + e) * sq (x - b * (t - g))) ((b * (b + e)) * (((t - g) * (t - g)) * e))
    (pull_change x b e (t - g))))
  where
    line : (p s : ℤ) (m m' i j n : ℕ) → i + m' ≤ j + m + n → (((p +ℤ s) -ℤ pos m) +ℤ pos i) ≤ℤ ((((p +ℤ s) -ℤ pos m') +ℤ pos j) +ℤ pos n)
    line p s m m' i j n h = omega (arith, ints)
