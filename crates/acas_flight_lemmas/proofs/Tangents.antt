-- The curves against their tangents, and what follows for the least gap between a curve and a line.
use Rattle.std.proofs.Common.{◌≡◌, ℕ, ◌+◌, ◌-◌, ◌*◌, ◌<◌, ◌≤◌, ◌⊎◌, inl, inr, ⊎_elim, refl, ap, arith, [], ◌∷◌, ℤ, pos, ◌+ℤ◌, ◌-ℤ◌, ◌≤ℤ◌, ◌<ℤ◌, min, mul-le-mul_left, mul-zero, mul-pos}
use native.Mathlib.Nat.{mul-lt-mul_of_pos_left}
use Rattle.std.proofs.lemmas.Int.{ints}
use Rattle.std.proofs.lemmas.Bool.{cases_lt}
use Rattle.acas_frac.proofs.IntRing.{at, num, ◌⊕◌, ◌⊗◌, ring}
use Rattle.acas_frac.proofs.Squares.{sq, tangent, held_tangent, held_tangent_strict}
use Rattle.acas_frac.proofs.Orders.{by_above, cases_lt_ℤ}
use Rattle.acas_flight.proofs.Curves.{steady, approach_above}
use Rattle.acas_flight.proofs.Holding.{steady_below}
use Rattle.acas_flight_lemmas.proofs.Rising.{held_below}
use Rattle.acas_flight.specs.Curves.{approach, held}

pub faster : (k : ℤ) (y t b : ℕ) → steady (k +ℤ pos y) t b ≡ steady k t b +ℤ pos ((y + y) * (b * t))
faster k y t b = ring (k ∷ pos y ∷ pos t ∷ pos b ∷ [])
    (((num (pos 2) ⊗ (at 0 ⊕ at 1)) ⊗ at 2) ⊗ at 3)
    ((((num (pos 2) ⊗ at 0) ⊗ at 2) ⊗ at 3) ⊕ ((at 1 ⊕ at 1) ⊗ (at 3 ⊗ at 2)))
    refl

pub parts_of : (b t g : ℕ) → b * t ≡ b * min t g + b * (t - g)
parts_of b t g = let whole : t ≡ min t g + (t - g) = omega arith in let e = ap (λ n. b * n) whole in omega (arith, e)

pub held_order : (b g s t : ℕ) → (b * (s - g) ≡ 0) ⊎ (b * min t g ≤ b * min s g)
held_order b g s t =
    ⊎_elim
    (λ (l : g < s). inr (mul-le-mul_left b (omega arith)))
    (λ (l : s ≤ g). inl (let e : s - g ≡ 0 = omega arith in rw e (mul-zero b)))
    (cases_lt g s)

-- Below its aim a curve lies above its tangent at s; the tangent's rate is that of the curve at s.
pub above_tangent : (k : ℤ) (x b g s t : ℕ) →
    (held (k -ℤ pos x) k b g s +ℤ steady (k -ℤ pos (x - b * (s - g))) t b) ≤ℤ (held (k -ℤ pos x) k b g t +ℤ steady (k -ℤ pos (x - b * (s - g))) s b)
above_tangent k x b g s t =
    rw (held_below k x b g s, held_below k x b g t, steady_below k (x - b * (s - g)) t b, steady_below k (x - b * (s - g)) s b)
    (line (steady k s b) (steady k t b) _ _ _ _ _ _ _
    (let e = parts_of b s g in let f = parts_of b t g in rw (e, f)
    (held_tangent x (b * min s g) (b * (s - g)) (b * min t g) (b * (t - g)) (held_order b g s t))))
  where
    line : (ss st : ℤ) (hs ht xx ys mt ds dt : ℕ) → ht + ys + ds ≤ hs + mt + dt →
        (((ss -ℤ pos hs) -ℤ pos xx +ℤ pos ys) +ℤ (st -ℤ pos dt)) ≤ℤ (((st -ℤ pos ht) -ℤ pos xx +ℤ pos mt) +ℤ (ss -ℤ pos ds))
    line ss st hs ht xx ys mt ds dt h = omega (arith, ints)

-- From its aim up a curve lies below its tangent at s.
pub below_tangent : (k : ℤ) (u b s t : ℕ) →
    (approach (k +ℤ pos u) k b t +ℤ steady (k +ℤ pos (u - b * s)) s b) ≤ℤ (approach (k +ℤ pos u) k b s +ℤ steady (k +ℤ pos (u - b * s)) t b)
below_tangent k u b s t =
    rw (approach_above k u b s, approach_above k u b t, faster k (u - b * s) t b, faster k (u - b * s) s b)
    (line (steady k s b) (steady k t b) _ _ _ _ _ (tangent u (b * s) (b * t)))
  where
    line : (ss st : ℤ) (uu ys mt ds dt : ℕ) → ys + ds ≤ mt + dt →
        (((st +ℤ pos uu) -ℤ pos mt) +ℤ (ss +ℤ pos ds)) ≤ℤ (((ss +ℤ pos uu) -ℤ pos ys) +ℤ (st +ℤ pos dt))
    line ss st uu ys mt ds dt h = omega (arith, ints)

-- ---- the least gap above a line of the rate w

-- lines of two rates part
pub lines_part : (r w : ℤ) (b m n : ℕ) → r ≤ℤ w → m ≤ n → (steady r n b +ℤ steady w m b) ≤ℤ (steady w n b +ℤ steady r m b)
lines_part r w b m n h l = by_above r w h (λ c e. rw e (parts c (n - m) (omega arith)))
  where
    parts : (c d : ℕ) → n ≡ m + d → (steady r n b +ℤ steady (r +ℤ pos c) m b) ≤ℤ (steady (r +ℤ pos c) n b +ℤ steady r m b)
    parts c d e = rw (faster r c m b, faster r c n b, e) (line (steady r (m + d) b) (steady r m b) _ _ (omega arith))
      where
        line : (a b : ℤ) (i j : ℕ) → i ≤ j → (a +ℤ (b +ℤ pos i)) ≤ℤ ((a +ℤ pos j) +ℤ b)
        line a b i j h = omega (arith, ints)

-- b times the gap between a climb y and the climb of a line of the rate w
abbrev pub gap : ℤ → ℤ → ℕ → ℕ → ℤ
gap y w b t = y -ℤ steady w t b

-- gaps between climbs c and lines w, compared through a tangent of the rate r
gaps_by : (cs ct rs rt ws wt : ℤ) → (cs +ℤ rt) ≤ℤ (ct +ℤ rs) → (wt +ℤ rs) ≤ℤ (rt +ℤ ws) → (cs -ℤ ws) ≤ℤ (ct -ℤ wt)
gaps_by cs ct rs rt ws wt h k = omega (arith, ints)

gaps_by_strict : (cs ct rs rt ws wt : ℤ) → (cs +ℤ rt) ≤ℤ (ct +ℤ rs) → (rs +ℤ wt) <ℤ (ws +ℤ rt) → (cs -ℤ ws) <ℤ (ct -ℤ wt)
gaps_by_strict cs ct rs rt ws wt h k = omega (arith, ints)

module _ (k : ℤ) (x b g : ℕ) (w : ℤ) where
  abbrev curve : ℕ → ℤ
  curve t = held (k -ℤ pos x) k b g t

  abbrev rate : ℕ → ℤ
  rate s = k -ℤ pos (x - b * (s - g))

  -- where the curve's rate is at least the line's, the gap is least among later times
  pub least_of_later : (s t : ℕ) → w ≤ℤ rate s → s ≤ t → gap (curve s) w b s ≤ℤ gap (curve t) w b t
  least_of_later s t h l = gaps_by (curve s) (curve t) (steady (rate s) s b) (steady (rate s) t b) (steady w s b) (steady w t b) (above_tangent k x b g s t) (lines_part w (rate s) b s t h l)

-- From the aim up, the gap at any time between two is at least that at one of the two.
pub least_at_an_end : (k : ℤ) (u b : ℕ) (w : ℤ) (from t to : ℕ) → from ≤ t → t ≤ to →
    (gap (approach (k +ℤ pos u) k b from) w b from ≤ℤ gap (approach (k +ℤ pos u) k b t) w b t)
    ⊎ (gap (approach (k +ℤ pos u) k b to) w b to ≤ℤ gap (approach (k +ℤ pos u) k b t) w b t)
least_at_an_end k u b w from t to h j =
    ⊎_elim
    (λ (l : w <ℤ (k +ℤ pos (u - b * t))). inl (gaps_by (approach (k +ℤ pos u) k b from) (approach (k +ℤ pos u) k b t) (steady (k +ℤ pos (u - b * t)) from b) (steady (k +ℤ pos (u - b * t)) t b) (steady w from b) (steady w t b) (below_tangent k u b t from) (lines_part w (k +ℤ pos (u - b * t)) b from t (omega (arith, ints)) h)))
    (λ (l : (k +ℤ pos (u - b * t)) ≤ℤ w). inr (line' (approach (k +ℤ pos u) k b to) (approach (k +ℤ pos u) k b t) (steady (k +ℤ pos (u - b * t)) to b) (steady (k +ℤ pos (u - b * t)) t b) (steady w to b) (steady w t b) (below_tangent k u b t to) (lines_part (k +ℤ pos (u - b * t)) w b t to l j)))
    (cases_lt_ℤ w (k +ℤ pos (u - b * t)))
  where
    line' : (cf ct rf rt wf wt : ℤ) → (cf +ℤ rt) ≤ℤ (ct +ℤ rf) → (rf +ℤ wt) ≤ℤ (wf +ℤ rt) → (cf -ℤ wf) ≤ℤ (ct -ℤ wt)
    line' cf ct rf rt wf wt h k = omega (arith, ints)

-- ---- the vertex is earlier than any other least gap

above_tangent_strict : (k : ℤ) (x b g s t : ℕ) → 0 < b → g < s → b * (s - g) ≤ x → t < s →
    (held (k -ℤ pos x) k b g s +ℤ steady (k -ℤ pos (x - b * (s - g))) t b) <ℤ (held (k -ℤ pos x) k b g t +ℤ steady (k -ℤ pos (x - b * (s - g))) s b)
above_tangent_strict k x b g s t p l i h =
    rw (held_below k x b g s, held_below k x b g t, steady_below k (x - b * (s - g)) t b, steady_below k (x - b * (s - g)) s b)
    (line (steady k s b) (steady k t b) ((x + x) * (b * min s g)) ((x + x) * (b * min t g)) (x * x) (sq (x - b * (s - g))) (sq (x - b * (t - g))) (((x - b * (s - g)) + (x - b * (s - g))) * (b * s)) (((x - b * (s - g)) + (x - b * (s - g))) * (b * t))
    (let e = parts_of b s g in let f = parts_of b t g in rw (e, f)
    (held_tangent_strict x (b * min s g) (b * (s - g)) (b * min t g) (b * (t - g)) i
    (mul-pos p (omega arith)) (mul-le-mul_left b (omega arith))
    (⊎_elim
    (λ (m : t < g). inr (mul-lt-mul_of_pos_left {m = min t g} {n = min s g} {k = b} (omega arith) p))
    (λ (m : g ≤ t). inl (mul-lt-mul_of_pos_left {m = t - g} {n = s - g} {k = b} (omega arith) p))
    (cases_lt t g)))))
  where
    line : (ss st : ℤ) (hs ht xx ys mt ds dt : ℕ) → ht + ys + ds < hs + mt + dt →
        ((((ss -ℤ pos hs) -ℤ pos xx) +ℤ pos ys) +ℤ (st -ℤ pos dt)) <ℤ ((((st -ℤ pos ht) -ℤ pos xx) +ℤ pos mt) +ℤ (ss -ℤ pos ds))
    line ss st hs ht xx ys mt ds dt h = omega (arith, ints)

-- Where the curve's rate is the line's, after the hold and no later than the bend, each earlier gap is greater.
pub earlier_is_greater : (k : ℤ) (x b g s t : ℕ) → 0 < b → g < s → b * (s - g) ≤ x → t < s →
    gap (held (k -ℤ pos x) k b g s) (k -ℤ pos (x - b * (s - g))) b s <ℤ gap (held (k -ℤ pos x) k b g t) (k -ℤ pos (x - b * (s - g))) b t
earlier_is_greater k x b g s t p l i h =
    line (held (k -ℤ pos x) k b g s) (held (k -ℤ pos x) k b g t) (steady (k -ℤ pos (x - b * (s - g))) s b) (steady (k -ℤ pos (x - b * (s - g))) t b) (above_tangent_strict k x b g s t p l i h)
  where
    line : (cs ct rs rt : ℤ) → (cs +ℤ rt) <ℤ (ct +ℤ rs) → (cs -ℤ rs) <ℤ (ct -ℤ rt)
    line cs ct rs rt h = omega (arith, ints)

-- ---- strict forms

pub lines_part_strict : (r w : ℤ) (b m n : ℕ) → 0 < b → r <ℤ w → m < n → (steady r n b +ℤ steady w m b) <ℤ (steady w n b +ℤ steady r m b)
lines_part_strict r w b m n p h l = by_above r w (omega (arith, ints)) (λ c e. rw e (parts c (n - m) (omega (arith, ints)) (omega arith) (omega arith)))
  where
    parts : (c d : ℕ) → 0 < c → 0 < d → n ≡ m + d → (steady r n b +ℤ steady (r +ℤ pos c) m b) <ℤ (steady (r +ℤ pos c) n b +ℤ steady r m b)
    parts c d s i e = rw (faster r c m b, faster r c n b, e) (line (steady r (m + d) b) (steady r m b) _ _ (let k : 0 < c * (b * d) = mul-pos s (mul-pos p i) in omega (arith, k)))
      where
        line : (a b : ℤ) (i j : ℕ) → i < j → (a +ℤ (b +ℤ pos i)) <ℤ ((a +ℤ pos j) +ℤ b)
        line a b i j h = omega (arith, ints)

-- where the curve is slower than the line, each earlier gap is greater
pub earlier_than_slower : (k : ℤ) (x b g : ℕ) (w : ℤ) (s t : ℕ) → 0 < b → (k -ℤ pos (x - b * (s - g))) <ℤ w → t < s →
    gap (held (k -ℤ pos x) k b g s) w b s <ℤ gap (held (k -ℤ pos x) k b g t) w b t
earlier_than_slower k x b g w s t p h l =
    gaps_by_strict (held (k -ℤ pos x) k b g s) (held (k -ℤ pos x) k b g t) (steady (k -ℤ pos (x - b * (s - g))) s b) (steady (k -ℤ pos (x - b * (s - g))) t b) (steady w s b) (steady w t b)
    (above_tangent k x b g s t) (lines_part_strict (k -ℤ pos (x - b * (s - g))) w b t s p h l)

-- From the aim up, before the later of two times the gap is at least that at the first or more than that at the last.
pub least_at_an_end_strict : (k : ℤ) (u b : ℕ) (w : ℤ) (from t to : ℕ) → 0 < b → from ≤ t → t < to →
    (gap (approach (k +ℤ pos u) k b from) w b from ≤ℤ gap (approach (k +ℤ pos u) k b t) w b t)
    ⊎ (gap (approach (k +ℤ pos u) k b to) w b to <ℤ gap (approach (k +ℤ pos u) k b t) w b t)
least_at_an_end_strict k u b w from t to p h j =
    ⊎_elim
    (λ (l : (k +ℤ pos (u - b * t)) <ℤ w). inr (gaps_by_strict (approach (k +ℤ pos u) k b to) (approach (k +ℤ pos u) k b t) (steady (k +ℤ pos (u - b * t)) to b) (steady (k +ℤ pos (u - b * t)) t b) (steady w to b) (steady w t b) (below_tangent k u b t to) (lines_part_strict (k +ℤ pos (u - b * t)) w b t to p l j)))
    (λ (l : w ≤ℤ (k +ℤ pos (u - b * t))). inl (gaps_by (approach (k +ℤ pos u) k b from) (approach (k +ℤ pos u) k b t) (steady (k +ℤ pos (u - b * t)) from b) (steady (k +ℤ pos (u - b * t)) t b) (steady w from b) (steady w t b) (below_tangent k u b t from) (lines_part w (k +ℤ pos (u - b * t)) b from t l h)))
    (cases_lt_ℤ (k +ℤ pos (u - b * t)) w)
