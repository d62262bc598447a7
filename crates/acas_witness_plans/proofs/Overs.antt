-- The fractions of the passes are their numbers over the common denominator.
use Rattle.std.proofs.Common.{◌≡◌, ℕ, ◌+◌, ◌-◌, ◌*◌, ◌<◌, ◌≤◌, refl, ap, ap₂, sym, ◌∙◌, arith, cond, [], ◌∷◌, ℤ, pos, ◌+ℤ◌, ◌-ℤ◌, ◌*ℤ◌, ◌≤ℤ◌, unsigned_abs, int_lt, min, mul-pos}
use Rattle.std.proofs.lemmas.Int.{ints, unsigned_abs-mul}
use Rattle.acas_frac.proofs.IntRing.{at, num, ◌⊕◌, ◌⊖◌, ◌⊗◌, ring}
use Rattle.acas_flight_lemmas.proofs.Held.{min_scaled, sub_scaled}
use Rattle.acas_flight_lemmas.proofs.Gaps.{test_scaled, cond_times, cond_none}
use Rattle.acas_frac.specs.Fraction.{Fraction, whole_of}
use Rattle.acas_flight.specs.Values.{IsOver}
use Rattle.acas_flight.specs.Curves.{low_pull, low_hold}
use Rattle.acas_areas.specs.Passes.{toward, rising, falling}
use Rattle.acas_areas.specs.Search.{Search, grain, unit, rate_step, over_square, low_time, high_time, pull_at_low, hold_at_low, pull_at_high, hold_at_high}

-- a whole number over n
pub whole_over : (v w : ℤ) (n : ℕ) (f : Fraction) → f ≡ whole_of w → w ≡ v → IsOver n (v *ℤ pos n) f
whole_over v w n f e g = rw (e, g) (ring (v ∷ pos n ∷ []) ((at 0 ⊗ at 1) ⊗ num (pos 1)) (at 0 ⊗ at 1) refl)

pub whole_over_ℕ : (b : ℕ) (w : ℤ) (q n : ℕ) (f : Fraction) → f ≡ whole_of w → w ≡ pos b → n ≡ b * q → IsOver q (pos n) f
whole_over_ℕ b w q n f e g h = rw (e, g, h) (ring (pos b ∷ pos q ∷ []) ((at 0 ⊗ at 1) ⊗ num (pos 1)) (at 0 ⊗ at 1) refl)

-- eighths over the square of the common denominator
pub eighth_over : (f : Fraction) (n : ℤ) (g : ℕ) → f.num *ℤ pos 8 ≡ n *ℤ pos f.den → IsOver ((2048 * g) * (2048 * g)) (n *ℤ pos (524288 * (g * g))) f
eighth_over f n g e =
    ring (n ∷ pos g ∷ pos f.den ∷ []) ((at 0 ⊗ (num (pos 524288) ⊗ (at 1 ⊗ at 1))) ⊗ at 2) ((num (pos 524288) ⊗ (at 1 ⊗ at 1)) ⊗ (at 0 ⊗ at 2)) refl
    ∙ ap (λ z. pos (524288 * (g * g)) *ℤ z) (sym e)
    ∙ ring (f.num ∷ pos g ∷ []) ((num (pos 524288) ⊗ (at 1 ⊗ at 1)) ⊗ (at 0 ⊗ num (pos 8))) (at 0 ⊗ ((num (pos 2048) ⊗ at 1) ⊗ (num (pos 2048) ⊗ at 1))) refl

pub eighths_of : (v : ℤ) (g : ℕ) → v *ℤ pos ((2048 * g) * (2048 * g)) ≡ (pos 8 *ℤ v) *ℤ pos (524288 * (g * g))
eighths_of v g = ring (v ∷ pos g ∷ []) (at 0 ⊗ ((num (pos 2048) ⊗ at 1) ⊗ (num (pos 2048) ⊗ at 1))) ((num (pos 8) ⊗ at 0) ⊗ (num (pos 524288) ⊗ (at 1 ⊗ at 1))) refl

pub pull_over : (f : Fraction) (n g : ℕ) → f.num *ℤ pos 2048 ≡ pos n *ℤ pos f.den → IsOver (2048 * g) (pos (n * g)) f
pull_over f n g e =
    ring (pos n ∷ pos g ∷ pos f.den ∷ []) ((at 0 ⊗ at 1) ⊗ at 2) (at 1 ⊗ (at 0 ⊗ at 2)) refl ∙ ap (λ z. pos g *ℤ z) (sym e)
    ∙ ring (f.num ∷ pos g ∷ []) (at 1 ⊗ (at 0 ⊗ num (pos 2048))) (at 0 ⊗ (num (pos 2048) ⊗ at 1)) refl

pub hold_over : (f : Fraction) (n g : ℕ) → f.num *ℤ pos 256 ≡ pos n *ℤ pos f.den → IsOver (2048 * g) (pos (n * (8 * g))) f
hold_over f n g e =
    ring (pos n ∷ pos g ∷ pos f.den ∷ []) ((at 0 ⊗ (num (pos 8) ⊗ at 1)) ⊗ at 2) ((num (pos 8) ⊗ at 1) ⊗ (at 0 ⊗ at 2)) refl ∙ ap (λ z. pos (8 * g) *ℤ z) (sym e)
    ∙ ring (f.num ∷ pos g ∷ []) ((num (pos 8) ⊗ at 1) ⊗ (at 0 ⊗ num (pos 256))) (at 0 ⊗ (num (pos 2048) ⊗ at 1)) refl

-- the two times
pub low_over : (s : Search) → pos 0 ≤ℤ s.low.num → IsOver (unit s) (pos (low_time s)) s.low
low_over s h = by (unsigned_abs s.low.num) (omega (arith, ints))
  where
    by : (n : ℕ) → s.low.num ≡ pos n → pos ((n * (2048 * s.high.den)) * s.low.den) ≡ s.low.num *ℤ pos (2048 * (s.low.den * s.high.den))
    by n e = rw e (ring (pos n ∷ pos s.low.den ∷ pos s.high.den ∷ []) ((at 0 ⊗ (num (pos 2048) ⊗ at 2)) ⊗ at 1) (at 0 ⊗ (num (pos 2048) ⊗ (at 1 ⊗ at 2))) refl)

pub high_over : (s : Search) → pos 0 ≤ℤ s.high.num → IsOver (unit s) (pos (high_time s)) s.high
high_over s h = by (unsigned_abs s.high.num) (omega (arith, ints))
  where
    by : (n : ℕ) → s.high.num ≡ pos n → pos ((n * (2048 * s.low.den)) * s.high.den) ≡ s.high.num *ℤ pos (2048 * (s.low.den * s.high.den))
    by n e = rw e (ring (pos n ∷ pos s.low.den ∷ pos s.high.den ∷ []) ((at 0 ⊗ (num (pos 2048) ⊗ at 1)) ⊗ at 2) (at 0 ⊗ (num (pos 2048) ⊗ (at 1 ⊗ at 2))) refl)

-- ---- the ways of the passes, over a step

way_scaled : (b a : ℤ) (m : ℕ) → unsigned_abs ((b *ℤ pos m) -ℤ (a *ℤ pos m)) ≡ unsigned_abs (b -ℤ a) * m
way_scaled b a m = ap unsigned_abs (ring (b ∷ a ∷ pos m ∷ []) ((at 0 ⊗ at 2) ⊖ (at 1 ⊗ at 2)) ((at 0 ⊖ at 1) ⊗ at 2) refl) ∙ unsigned_abs-mul (b -ℤ a) (pos m)

pub rising_scaled : (a b : ℤ) (i m : ℕ) → rising (a *ℤ pos m) (b *ℤ pos m) (i * m) ≡ rising a b i *ℤ pos m
rising_scaled a b i m =
    ap (λ n. (a *ℤ pos m) +ℤ pos (min (i * m) n)) (way_scaled b a m) ∙ ap (λ n. (a *ℤ pos m) +ℤ pos n) (min_scaled i (unsigned_abs (b -ℤ a)) m)
    ∙ ring (a ∷ pos (min i (unsigned_abs (b -ℤ a))) ∷ pos m ∷ []) ((at 0 ⊗ at 2) ⊕ (at 1 ⊗ at 2)) ((at 0 ⊕ at 1) ⊗ at 2) refl

pub falling_scaled : (a b : ℤ) (i m : ℕ) → falling (a *ℤ pos m) (b *ℤ pos m) (i * m) ≡ falling a b i *ℤ pos m
falling_scaled a b i m =
    ap (λ n. (a *ℤ pos m) -ℤ pos (min (i * m) n)) (way_scaled a b m) ∙ ap (λ n. (a *ℤ pos m) -ℤ pos n) (min_scaled i (unsigned_abs (a -ℤ b)) m)
    ∙ ring (a ∷ pos (min i (unsigned_abs (a -ℤ b))) ∷ pos m ∷ []) ((at 0 ⊗ at 2) ⊖ (at 1 ⊗ at 2)) ((at 0 ⊖ at 1) ⊗ at 2) refl

pub toward_scaled : (a b i m : ℕ) → toward (a * m) (b * m) (i * m) ≡ toward a b i * m
toward_scaled a b i m =
    ap₂ (λ (x y : ℕ). (a * m + min (i * m) x) - min (i * m) y) (sub_scaled b a m) (sub_scaled a b m)
    ∙ ap₂ (λ (x y : ℕ). (a * m + x) - y) (min_scaled i (b - a) m) (min_scaled i (a - b) m)
    ∙ gather a (min i (b - a)) (min i (a - b)) m
  where
    gather : (a x y m : ℕ) → (a * m + x * m) - y * m ≡ ((a + x) - y) * m
    gather a x y m = let e : a * m + x * m ≡ (a + x) * m = omega arith in rw e (sub_scaled (a + x) y m)

-- ---- the pull and the hold of the highest flight, from eighths

test_eighths : (h : ℤ) (r : ℤ) (g : ℕ) → 0 < g → int_lt (h *ℤ pos ((2048 * g) * (2048 * g))) (r *ℤ pos (524288 * (g * g))) ≡ int_lt (pos 8 *ℤ h) r
test_eighths h r g p = rw (eighths_of h g) (test_scaled (pos 8 *ℤ h) r (524288 * (g * g)) (mul-pos (omega arith) (mul-pos p p)))

test_square : (a b : ℤ) (g : ℕ) → 0 < g → int_lt (a *ℤ pos ((2048 * g) * (2048 * g))) (b *ℤ pos ((2048 * g) * (2048 * g))) ≡ int_lt a b
test_square a b g p = test_scaled a b ((2048 * g) * (2048 * g)) (let q : 0 < 2048 * g = omega arith in mul-pos q q)

pub low_pull_over : (s : Search) → 0 < grain s → pull_at_low s ≡ low_pull s.demand s.area.own.least * unit s
low_pull_over s p = ap (λ t. cond t (s.demand.pull * unit s) (s.demand.limit * unit s)) (test_square s.area.own.least s.demand.lo (grain s) p) ∙ cond_times (int_lt s.area.own.least s.demand.lo) s.demand.pull s.demand.limit (unit s)

pub low_hold_over : (s : Search) → 0 < grain s → hold_at_low s ≡ low_hold s.demand s.area.own.least * unit s
low_hold_over s p = ap (λ t. cond t (s.demand.delay * unit s) 0) (test_square s.area.own.least s.demand.lo (grain s) p) ∙ cond_none (int_lt s.area.own.least s.demand.lo) s.demand.delay (unit s)

pub high_pull_over : (s : Search) (r : ℤ) → 0 < grain s → pull_at_high s (r *ℤ pos (rate_step s)) ≡ cond (int_lt (pos 8 *ℤ s.demand.hi) r) s.demand.pull s.demand.limit * unit s
high_pull_over s r p = ap (λ t. cond t (s.demand.pull * unit s) (s.demand.limit * unit s)) (test_eighths s.demand.hi r (grain s) p) ∙ cond_times (int_lt (pos 8 *ℤ s.demand.hi) r) s.demand.pull s.demand.limit (unit s)

pub high_hold_over : (s : Search) (r : ℤ) → 0 < grain s → hold_at_high s (r *ℤ pos (rate_step s)) ≡ cond (int_lt (pos 8 *ℤ s.demand.hi) r) s.demand.delay 0 * unit s
high_hold_over s r p = ap (λ t. cond t (s.demand.delay * unit s) 0) (test_eighths s.demand.hi r (grain s) p) ∙ cond_none (int_lt (pos 8 *ℤ s.demand.hi) r) s.demand.delay (unit s)

-- the same from the least rate of the box
pub first_pull_over : (s : Search) → 0 < grain s → pull_at_high s (over_square s s.area.own.least) ≡ cond (int_lt (pos 8 *ℤ s.demand.hi) (pos 8 *ℤ s.area.own.least)) s.demand.pull s.demand.limit * unit s
first_pull_over s p = ap (pull_at_high s) (eighths_of s.area.own.least (grain s)) ∙ high_pull_over s (pos 8 *ℤ s.area.own.least) p

pub first_hold_over : (s : Search) → 0 < grain s → hold_at_high s (over_square s s.area.own.least) ≡ cond (int_lt (pos 8 *ℤ s.demand.hi) (pos 8 *ℤ s.area.own.least)) s.demand.delay 0 * unit s
first_hold_over s p = ap (hold_at_high s) (eighths_of s.area.own.least (grain s)) ∙ high_hold_over s (pos 8 *ℤ s.area.own.least) p

-- ---- sizes on the way

pub rising_size : (a b : ℤ) (i m : ℕ) → a ≤ℤ b → unsigned_abs a ≤ m → unsigned_abs b ≤ m → unsigned_abs (rising a b i) ≤ m
rising_size a b i m h j k = omega (arith, ints)

pub falling_size : (a b : ℤ) (i m : ℕ) → b ≤ℤ a → unsigned_abs a ≤ m → unsigned_abs b ≤ m → unsigned_abs (falling a b i) ≤ m
falling_size a b i m h j k = omega (arith, ints)

-- ---- the moving quantities of the code

pub falling_over : (g l : ℤ) (m i : ℕ) (f : Fraction) (n r a b : ℤ) → f.num *ℤ pos 8 ≡ n *ℤ pos f.den → n ≡ r → r ≡ falling a b i → a ≡ pos 8 *ℤ g → b ≡ pos 8 *ℤ l →
    IsOver ((2048 * m) * (2048 * m)) (falling (g *ℤ pos ((2048 * m) * (2048 * m))) (l *ℤ pos ((2048 * m) * (2048 * m))) (i * (524288 * (m * m)))) f
falling_over g l m i f n r a b e en er ea eb =
    let turn = ap₂ (λ (x y : ℤ). falling x y (i * (524288 * (m * m)))) (eighths_of g m) (eighths_of l m) ∙ falling_scaled (pos 8 *ℤ g) (pos 8 *ℤ l) i (524288 * (m * m)) in
    let same : n ≡ falling (pos 8 *ℤ g) (pos 8 *ℤ l) i = en ∙ er ∙ ap₂ (λ (x y : ℤ). falling x y i) ea eb in
    rw turn (rw (← same) (eighth_over f n m e))

pub rising_over : (g l : ℤ) (m i : ℕ) (f : Fraction) (n r a b : ℤ) → f.num *ℤ pos 8 ≡ n *ℤ pos f.den → n ≡ r → r ≡ rising a b i → a ≡ pos 8 *ℤ g → b ≡ pos 8 *ℤ l →
    IsOver ((2048 * m) * (2048 * m)) (rising (g *ℤ pos ((2048 * m) * (2048 * m))) (l *ℤ pos ((2048 * m) * (2048 * m))) (i * (524288 * (m * m)))) f
rising_over g l m i f n r a b e en er ea eb =
    let turn = ap₂ (λ (x y : ℤ). rising x y (i * (524288 * (m * m)))) (eighths_of g m) (eighths_of l m) ∙ rising_scaled (pos 8 *ℤ g) (pos 8 *ℤ l) i (524288 * (m * m)) in
    let same : n ≡ rising (pos 8 *ℤ g) (pos 8 *ℤ l) i = en ∙ er ∙ ap₂ (λ (x y : ℤ). rising x y i) ea eb in
    rw turn (rw (← same) (eighth_over f n m e))

pub pull_place_over : (g i : ℕ) (f : Fraction) (n a b k u v : ℕ) → f.num *ℤ pos 2048 ≡ pos n *ℤ pos f.den → n ≡ toward (2048 * a) (2048 * b) k → k ≡ i → u ≡ a * (2048 * g) → v ≡ b * (2048 * g) →
    IsOver (2048 * g) (pos (toward u v (i * g))) f
pull_place_over g i f n a b k u v e en ek eu ev =
    let turn : toward u v (i * g) ≡ n * g =
    ap₂ (λ (p q : ℕ). toward p q (i * g)) (eu ∙ along a g) (ev ∙ along b g) ∙ toward_scaled (2048 * a) (2048 * b) i g ∙ ap (λ z. z * g) (sym (en ∙ ap (λ z. toward (2048 * a) (2048 * b) z) ek)) in
    rw turn (pull_over f n g e)
  where
    along : (a g : ℕ) → a * (2048 * g) ≡ (2048 * a) * g
    along a g = omega arith

pub hold_place_over : (g i : ℕ) (f : Fraction) (n a b k u v : ℕ) → f.num *ℤ pos 256 ≡ pos n *ℤ pos f.den → n ≡ toward (256 * a) (256 * b) k → k ≡ i → u ≡ a * (2048 * g) → v ≡ b * (2048 * g) →
    IsOver (2048 * g) (pos (toward u v (i * (8 * g)))) f
hold_place_over g i f n a b k u v e en ek eu ev =
    let turn : toward u v (i * (8 * g)) ≡ n * (8 * g) =
    ap₂ (λ (p q : ℕ). toward p q (i * (8 * g))) (eu ∙ along a g) (ev ∙ along b g) ∙ toward_scaled (256 * a) (256 * b) i (8 * g) ∙ ap (λ z. z * (8 * g)) (sym (en ∙ ap (λ z. toward (256 * a) (256 * b) z) ek)) in
    rw turn (hold_over f n g e)
  where
    along : (a g : ℕ) → a * (2048 * g) ≡ (256 * a) * (8 * g)
    along a g = omega arith

pub rate_place_over : (s : Search) (i : ℕ) (n r a b : ℤ) → n ≡ r → r ≡ rising a b i → a ≡ pos 8 *ℤ s.area.own.least → b ≡ pos 8 *ℤ s.area.own.greatest →
    rising (over_square s s.area.own.least) (over_square s s.area.own.greatest) (i * rate_step s) ≡ n *ℤ pos (rate_step s)
rate_place_over s i n r a b en er ea eb =
    ap₂ (λ (x y : ℤ). rising x y (i * rate_step s)) (eighths_of s.area.own.least (grain s)) (eighths_of s.area.own.greatest (grain s))
    ∙ rising_scaled (pos 8 *ℤ s.area.own.least) (pos 8 *ℤ s.area.own.greatest) i (rate_step s)
    ∙ ap (λ z. z *ℤ pos (rate_step s)) (sym (en ∙ er ∙ ap₂ (λ (x y : ℤ). rising x y i) ea eb))
