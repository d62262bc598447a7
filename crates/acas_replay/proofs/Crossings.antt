-- Between a fraction at which a parabola is at most a bound and one at which it is at least its opposite there is one at which it is
-- within the bound: a walk in steps that are small enough.
use Rattle.std.proofs.Common.{◌≡◌, ℕ, zero, suc, ◌+◌, ◌-◌, ◌*◌, ◌<◌, ◌≤◌, ◌⊎◌, inl, inr, ⊎_elim, [], ◌∷◌, refl, arith, mul_comm, mul-le-mul_right, le_refl, ℤ, pos, negsuc, ◌+ℤ◌, ◌-ℤ◌, ◌*ℤ◌, neg_ℤ, unsigned_abs, ◌≤ℤ◌, ◌<ℤ◌}
use Rattle.std.proofs.lemmas.Int.{ints}
use native.Mathlib.Nat.{mul-le-mul_left}
use lib.IntN.{*ℤ_comm}
use Rattle.acas_frac.proofs.SignedProducts.{le-trans_ℤ, mul_assoc_ℤ, mul-le_ℤ, mul-neg_ℤ}
use Rattle.acas_frac.proofs.Bounds.{product_size}
use Rattle.acas_frac.proofs.IntRing.{Expr, ring, at, num, ◌⊕◌, ◌⊖◌, ◌⊗◌}
use Rattle.acas_frac.proofs.Orders.{cases_lt_ℤ, mul_nonneg}
use Rattle.acas_replay.specs.Parabola.{IsBetween, value_at}
use Rattle.acas_replay.specs.declared.parabola.Fractions.{Fractions}
use Rattle.acas_replay.specs.declared.parabola.Parabola.{Parabola}
use Rattle.acas_replay.proofs.Signs.{below_some, le_from_mul_by, mul_le_right, mul_pos_ℤ}

-- the value is at most the bound, and at least its opposite
pub record IsWithin (bound z : ℤ) : Type 0 where
  pub at_least : neg_ℤ bound ≤ℤ z
  pub at_most : z ≤ℤ bound

-- ---- a walk from below that ends above

-- one of the places of a walk is within the bound
abbrev pub Meets : (ℕ → ℤ) → ℤ → ℕ → Type 0
Meets g bound n = (i : ℕ) × (i ≤ n) × IsWithin bound (g i)

walk : (g : ℕ → ℤ) (bound : ℤ) (n : ℕ) → g 0 ≤ℤ bound → ((i : ℕ) → i < n → g (suc i) ≤ℤ (g i +ℤ pos 2 *ℤ bound)) →
    Meets g bound n ⊎ (g n <ℤ neg_ℤ bound)
walk g bound zero start steps =
    ⊎_elim
    (λ (l : g 0 <ℤ neg_ℤ bound). inr l)
    (λ (l : neg_ℤ bound ≤ℤ g 0). inl (0, omega arith, record { at_least = l; at_most = start }))
    (cases_lt_ℤ (g 0) (neg_ℤ bound))
walk g bound (suc n) start steps =
    ⊎_elim
    (λ (m : Meets g bound n). inl (m.0, omega (arith, m.1), m.2))
    (λ (below : g n <ℤ neg_ℤ bound).
    ⊎_elim
    (λ (l : g (suc n) <ℤ neg_ℤ bound). inr l)
    (λ (l : neg_ℤ bound ≤ℤ g (suc n)). inl (suc n, omega arith, record { at_least = l; at_most = next (g n) (g (suc n)) below (steps n (omega arith)) }))
    (cases_lt_ℤ (g (suc n)) (neg_ℤ bound)))
    (walk g bound n start (λ i h. steps i (omega arith)))
  where
    next : (u v : ℤ) → u <ℤ neg_ℤ bound → v ≤ℤ (u +ℤ pos 2 *ℤ bound) → v ≤ℤ bound
    next u v h k = omega (arith, ints)

meets : (g : ℕ → ℤ) (bound : ℤ) (n : ℕ) → g 0 ≤ℤ bound → neg_ℤ bound ≤ℤ g n →
    ((i : ℕ) → i < n → g (suc i) ≤ℤ (g i +ℤ pos 2 *ℤ bound)) → Meets g bound n
meets g bound n start end steps = ⊎_elim (λ m. m) (λ l. absurd (omega (arith, ints))) (walk g bound n start steps)

-- ---- sizes of sums and products

size_below : (u v : ℤ) (m n : ℕ) → unsigned_abs u ≤ m → unsigned_abs v ≤ n → (u *ℤ v) ≤ℤ pos (m * n)
size_below u v m n h k =
    let e = product_size u v m n h k in omega (arith, ints)

pub size_sum : (u v : ℤ) (m n : ℕ) → unsigned_abs u ≤ m → unsigned_abs v ≤ n → unsigned_abs (u +ℤ v) ≤ m + n
size_sum u v m n h k = omega (arith, ints)

size_between : (u : ℤ) (m : ℕ) → pos 0 ≤ℤ u → u ≤ℤ pos m → unsigned_abs u ≤ m
size_between u m h k = omega (arith, ints)

-- ---- fractions of a second

-- the two fractions are in the second
pub record AreInSecond (f : Fractions) : Type 0 where
  pub some : pos 0 <ℤ f.parts
  pub first : pos 0 ≤ℤ f.first
  pub last : f.last ≤ℤ f.parts

pub not_before : (f : Fractions) (q a : ℤ) → AreInSecond f → IsBetween f q a → pos 0 ≤ℤ a
not_before f q a i b =
    le_from_mul_by f.parts (pos 0) a i.some
    (rw (*ℤ_comm f.parts (pos 0), zero_left f.parts) (le-trans_ℤ (pos 0) (f.first *ℤ q) (f.parts *ℤ a) (mul_nonneg f.first q i.first (below_some b.some)) b.after))
  where
    zero_left : (s : ℤ) → pos 0 *ℤ s ≡ pos 0
    zero_left s = omega (arith, ints)

pub not_after : (f : Fractions) (q a : ℤ) → AreInSecond f → IsBetween f q a → a ≤ℤ q
not_after f q a i b =
    le_from_mul_by f.parts a q i.some
    (le-trans_ℤ (f.parts *ℤ a) (f.last *ℤ q) (f.parts *ℤ q) b.before (mul_le_right q f.last f.parts (below_some b.some) i.last))

-- ---- the places of the walk

-- from x to y in k steps, after i of them, over k times as many parts
abbrev place : ℤ → ℤ → ℕ → ℕ → ℤ
place x y k i = x *ℤ pos k +ℤ (y -ℤ x) *ℤ pos i

sum_le : (u v u' v' : ℤ) → u ≤ℤ u' → v ≤ℤ v' → (u +ℤ v) ≤ℤ (u' +ℤ v')
sum_le u v u' v' h k = omega (arith, ints)

place_between-sum : (f : Fractions) (w x y : ℤ) (i j : ℕ) → 0 < i + j → IsBetween f w x → IsBetween f w y → IsBetween f (w *ℤ pos (i + j)) (place x y (i + j) i)
place_between-sum f w x y i j some b c = record {
  some = mul_pos_ℤ w (pos (i + j)) b.some (omega (arith, ints));
  after = rw (shared f.first, middle) (sum_le (pos j *ℤ (f.first *ℤ w)) (pos i *ℤ (f.first *ℤ w)) (pos j *ℤ (f.parts *ℤ x)) (pos i *ℤ (f.parts *ℤ y)) (mul-le_ℤ j (f.first *ℤ w) (f.parts *ℤ x) b.after) (mul-le_ℤ i (f.first *ℤ w) (f.parts *ℤ y) c.after));
  before = rw (shared f.last, middle) (sum_le (pos j *ℤ (f.parts *ℤ x)) (pos i *ℤ (f.parts *ℤ y)) (pos j *ℤ (f.last *ℤ w)) (pos i *ℤ (f.last *ℤ w)) (mul-le_ℤ j (f.parts *ℤ x) (f.last *ℤ w) b.before) (mul-le_ℤ i (f.parts *ℤ y) (f.last *ℤ w) c.before));
}
  where
    shared : (n : ℤ) → n *ℤ (w *ℤ pos (i + j)) ≡ pos j *ℤ (n *ℤ w) +ℤ pos i *ℤ (n *ℤ w)
    shared n = ring (n ∷ w ∷ pos i ∷ pos j ∷ []) (at 0 ⊗ (at 1 ⊗ (at 2 ⊕ at 3))) ((at 3 ⊗ (at 0 ⊗ at 1)) ⊕ (at 2 ⊗ (at 0 ⊗ at 1))) refl

    middle : f.parts *ℤ place x y (i + j) i ≡ pos j *ℤ (f.parts *ℤ x) +ℤ pos i *ℤ (f.parts *ℤ y)
    middle = ring (f.parts ∷ x ∷ y ∷ pos i ∷ pos j ∷ []) (at 0 ⊗ ((at 1 ⊗ (at 3 ⊕ at 4)) ⊕ ((at 2 ⊖ at 1) ⊗ at 3))) ((at 4 ⊗ (at 0 ⊗ at 1)) ⊕ (at 3 ⊗ (at 0 ⊗ at 2))) refl

place_between : (f : Fractions) (w x y : ℤ) (k i : ℕ) → 0 < k → i ≤ k → IsBetween f w x → IsBetween f w y → IsBetween f (w *ℤ pos k) (place x y k i)
place_between f w x y k i some h b c =
    let e : k ≡ i + (k - i) = omega arith in
    let some' : 0 < i + (k - i) = omega arith in
    rw e (place_between-sum f w x y i (k - i) some' b c)

place_first : (x y : ℤ) (k : ℕ) → place x y k 0 ≡ x *ℤ pos k
place_first x y k = ring (x ∷ y ∷ pos k ∷ []) ((at 0 ⊗ at 2) ⊕ ((at 1 ⊖ at 0) ⊗ num (pos 0))) (at 0 ⊗ at 2) refl

place_last : (x y : ℤ) (k : ℕ) → place x y k k ≡ y *ℤ pos k
place_last x y k = ring (x ∷ y ∷ pos k ∷ []) ((at 0 ⊗ at 2) ⊕ ((at 1 ⊖ at 0) ⊗ at 2)) (at 1 ⊗ at 2) refl

-- ---- one step

abbrev parts : Expr
parts = at 5 ⊗ at 6

abbrev here : Expr
here = (at 3 ⊗ at 6) ⊕ ((at 4 ⊖ at 3) ⊗ at 7)

abbrev next : Expr
next = (at 3 ⊗ at 6) ⊕ ((at 4 ⊖ at 3) ⊗ (at 7 ⊕ num (pos 1)))

-- what a step changes the value by
abbrev change : Parabola → ℤ → ℤ → ℤ → ℕ → ℕ → ℤ
change p x y w k i = (y -ℤ x) *ℤ (pos 2 *ℤ (p.slope *ℤ (w *ℤ pos k)) +ℤ p.bend *ℤ (place x y k i +ℤ place x y k (suc i)))

value_at-next : (p : Parabola) (x y w : ℤ) (k i : ℕ) →
    value_at p (place x y k (suc i)) (w *ℤ pos k) ≡ value_at p (place x y k i) (w *ℤ pos k) +ℤ change p x y w k i
unfolding value_at
value_at-next p x y w k i =
    let e : pos (suc i) ≡ pos i +ℤ pos 1 = omega (arith, ints) in
    rw e (ring (p.level ∷ p.slope ∷ p.bend ∷ x ∷ y ∷ w ∷ pos k ∷ pos i ∷ [])
    (((at 0 ⊗ (parts ⊗ parts)) ⊕ ((num (pos 2) ⊗ at 1) ⊗ (next ⊗ parts))) ⊕ (at 2 ⊗ (next ⊗ next)))
    ((((at 0 ⊗ (parts ⊗ parts)) ⊕ ((num (pos 2) ⊗ at 1) ⊗ (here ⊗ parts))) ⊕ (at 2 ⊗ (here ⊗ here))) ⊕ ((at 4 ⊖ at 3) ⊗ ((num (pos 2) ⊗ (at 1 ⊗ parts)) ⊕ (at 2 ⊗ (here ⊕ next)))))
    refl)

-- with more steps than the sizes of slope and bend no step is longer than twice the half
small_number : (w k half d c : ℕ) → d + c ≤ k → 0 < half → w * (2 * (d * (w * k)) + c * (w * k + w * k)) ≤ 2 * (half * ((w * k) * (w * k)))
small_number w k half d c h p = omega (arith, mul-le-mul_left (2 * (w * (w * k))) h, mul-le-mul_right ((w * k) * (w * k)) p)

small_step : (d c x y a b : ℤ) (w k half : ℕ) → unsigned_abs d + unsigned_abs c ≤ k → 0 < half → unsigned_abs (y -ℤ x) ≤ w →
    unsigned_abs a ≤ w * k → unsigned_abs b ≤ w * k →
    ((y -ℤ x) *ℤ (pos 2 *ℤ (d *ℤ (pos w *ℤ pos k)) +ℤ c *ℤ (a +ℤ b))) ≤ℤ (pos 2 *ℤ (pos half *ℤ ((pos w *ℤ pos k) *ℤ (pos w *ℤ pos k))))
small_step d c x y a b w k half h p near at_a at_b =
    le-trans_ℤ ((y -ℤ x) *ℤ (pos 2 *ℤ (d *ℤ (pos w *ℤ pos k)) +ℤ c *ℤ (a +ℤ b))) (pos (w * (2 * (unsigned_abs d * (w * k)) + unsigned_abs c * (w * k + w * k)))) (pos (2 * (half * ((w * k) * (w * k)))))
    (size_below (y -ℤ x) (pos 2 *ℤ (d *ℤ pos (w * k)) +ℤ c *ℤ (a +ℤ b)) w (2 * (unsigned_abs d * (w * k)) + unsigned_abs c * (w * k + w * k)) near
    (size_sum (pos 2 *ℤ (d *ℤ pos (w * k))) (c *ℤ (a +ℤ b)) (2 * (unsigned_abs d * (w * k))) (unsigned_abs c * (w * k + w * k))
    (product_size (pos 2) (d *ℤ pos (w * k)) 2 (unsigned_abs d * (w * k)) (omega arith) (product_size d (pos (w * k)) (unsigned_abs d) (w * k) (le_refl (unsigned_abs d)) (le_refl (w * k))))
    (product_size c (a +ℤ b) (unsigned_abs c) (w * k + w * k) (le_refl (unsigned_abs c)) (size_sum a b (w * k) (w * k) at_a at_b))))
    (omega (arith, ints, small_number w k half (unsigned_abs d) (unsigned_abs c) h p))

-- ---- the crossing

-- at some fraction between the two the value is at most the half, and at least its opposite
abbrev pub Crosses : Parabola → ℤ → Fractions → Type 0
Crosses p half f = (q : ℤ) × (a : ℤ) × IsBetween f q a × IsWithin (half *ℤ (q *ℤ q)) (value_at p a q)

value_at-scaled : (p : Parabola) (a q m : ℤ) → value_at p (a *ℤ m) (q *ℤ m) ≡ (m *ℤ m) *ℤ value_at p a q
unfolding value_at
value_at-scaled p a q m = ring (p.level ∷ p.slope ∷ p.bend ∷ a ∷ q ∷ m ∷ [])
    (((at 0 ⊗ ((at 4 ⊗ at 5) ⊗ (at 4 ⊗ at 5))) ⊕ ((num (pos 2) ⊗ at 1) ⊗ ((at 3 ⊗ at 5) ⊗ (at 4 ⊗ at 5)))) ⊕ (at 2 ⊗ ((at 3 ⊗ at 5) ⊗ (at 3 ⊗ at 5))))
    ((at 5 ⊗ at 5) ⊗ (((at 0 ⊗ (at 4 ⊗ at 4)) ⊕ ((num (pos 2) ⊗ at 1) ⊗ (at 3 ⊗ at 4))) ⊕ (at 2 ⊗ (at 3 ⊗ at 3))))
    refl

bound-scaled : (b q m : ℤ) → b *ℤ ((q *ℤ m) *ℤ (q *ℤ m)) ≡ (m *ℤ m) *ℤ (b *ℤ (q *ℤ q))
bound-scaled b q m = ring (b ∷ q ∷ m ∷ []) (at 0 ⊗ ((at 1 ⊗ at 2) ⊗ (at 1 ⊗ at 2))) ((at 2 ⊗ at 2) ⊗ (at 0 ⊗ (at 1 ⊗ at 1))) refl

-- both fractions over one denominator, and k steps between them
module _ (p : Parabola) (half k : ℕ) (f : Fractions) (some : 0 < half) (fine : unsigned_abs p.slope + unsigned_abs p.bend < k) (inside : AreInSecond f) where
  place_size : (w : ℕ) (x y : ℤ) (i : ℕ) → i ≤ k → IsBetween f (pos w) x → IsBetween f (pos w) y → unsigned_abs (place x y k i) ≤ w * k
  place_size w x y i l b c =
      let some_steps : 0 < k = omega arith in
      let at_i = place_between f (pos w) x y k i some_steps l b c in
      size_between (place x y k i) (w * k) (not_before f (pos w *ℤ pos k) (place x y k i) inside at_i) (not_after f (pos w *ℤ pos k) (place x y k i) inside at_i)

  way_size : (w : ℕ) (x y : ℤ) → IsBetween f (pos w) x → IsBetween f (pos w) y → unsigned_abs (y -ℤ x) ≤ w
  way_size w x y b c =
      spread x y (not_before f (pos w) x inside b) (not_after f (pos w) x inside b) (not_before f (pos w) y inside c) (not_after f (pos w) y inside c)
    where
      spread : (x y : ℤ) → pos 0 ≤ℤ x → x ≤ℤ pos w → pos 0 ≤ℤ y → y ≤ℤ pos w → unsigned_abs (y -ℤ x) ≤ w
      spread x y h i j l = omega (arith, ints)

  first_low : (w : ℕ) (x y : ℤ) → value_at p x (pos w) ≤ℤ (pos half *ℤ (pos w *ℤ pos w)) →
      value_at p (place x y k 0) (pos w *ℤ pos k) ≤ℤ (pos half *ℤ ((pos w *ℤ pos k) *ℤ (pos w *ℤ pos k)))
  first_low w x y low =
      rw (place_first x y k, value_at-scaled p x (pos w) (pos k), bound-scaled (pos half) (pos w) (pos k))
      (mul-le_ℤ (k * k) (value_at p x (pos w)) (pos half *ℤ (pos w *ℤ pos w)) low)

  last_high : (w : ℕ) (x y : ℤ) → neg_ℤ (pos half *ℤ (pos w *ℤ pos w)) ≤ℤ value_at p y (pos w) →
      neg_ℤ (pos half *ℤ ((pos w *ℤ pos k) *ℤ (pos w *ℤ pos k))) ≤ℤ value_at p (place x y k k) (pos w *ℤ pos k)
  last_high w x y high =
      rw (place_last x y k, value_at-scaled p y (pos w) (pos k), bound-scaled (pos half) (pos w) (pos k))
      (let m = mul-le_ℤ (k * k) (neg_ℤ (pos half *ℤ (pos w *ℤ pos w))) (value_at p y (pos w)) high in
      rw (mul-neg_ℤ (pos (k * k)) (pos half *ℤ (pos w *ℤ pos w))) at m)

  one_step : (w : ℕ) (x y : ℤ) (i : ℕ) → i < k → IsBetween f (pos w) x → IsBetween f (pos w) y →
      value_at p (place x y k (suc i)) (pos w *ℤ pos k)
      ≤ℤ (value_at p (place x y k i) (pos w *ℤ pos k) +ℤ pos 2 *ℤ (pos half *ℤ ((pos w *ℤ pos k) *ℤ (pos w *ℤ pos k))))
  one_step w x y i l b c =
      rw (value_at-next p x y (pos w) k i)
      (more (value_at p (place x y k i) (pos w *ℤ pos k)) _ _
      (small_step p.slope p.bend x y (place x y k i) (place x y k (suc i)) w k half (omega arith) some (way_size w x y b c) (place_size w x y i (omega arith) b c) (place_size w x y (suc i) (omega arith) b c)))
    where
      more : (u v v' : ℤ) → v ≤ℤ v' → (u +ℤ v) ≤ℤ (u +ℤ v')
      more u v v' h = omega (arith, ints)

  over_one : (w : ℕ) (x y : ℤ) → IsBetween f (pos w) x → IsBetween f (pos w) y →
      value_at p x (pos w) ≤ℤ (pos half *ℤ (pos w *ℤ pos w)) → neg_ℤ (pos half *ℤ (pos w *ℤ pos w)) ≤ℤ value_at p y (pos w) →
      Crosses p (pos half) f
  over_one w x y b c low high =
      let some_steps : 0 < k = omega arith in
      let m = meets (λ i. value_at p (place x y k i) (pos w *ℤ pos k)) (pos half *ℤ ((pos w *ℤ pos k) *ℤ (pos w *ℤ pos k))) k
      (first_low w x y low) (last_high w x y high) (λ i l. one_step w x y i l b c) in
      (pos w *ℤ pos k, place x y k m.0, place_between f (pos w) x y k m.0 some_steps m.1 b c, m.2)

  between_scaled : (q a m : ℤ) → pos 0 <ℤ m → IsBetween f q a → IsBetween f (q *ℤ m) (a *ℤ m)
  between_scaled q a m l b = record {
    some = mul_pos_ℤ q m b.some l;
    after = rw (← mul_assoc_ℤ f.first q m, ← mul_assoc_ℤ f.parts a m) (mul_le_right m (f.first *ℤ q) (f.parts *ℤ a) (below_some l) b.after);
    before = rw (← mul_assoc_ℤ f.last q m, ← mul_assoc_ℤ f.parts a m) (mul_le_right m (f.parts *ℤ a) (f.last *ℤ q) (below_some l) b.before);
  }

  -- from a fraction at which it is at most the half, and one at which it is at least its opposite
  pub crosses : (q x r y : ℤ) → IsBetween f q x → IsBetween f r y → value_at p x q ≤ℤ (pos half *ℤ (q *ℤ q)) → neg_ℤ (pos half *ℤ (r *ℤ r)) ≤ℤ value_at p y r →
      Crosses p (pos half) f
  crosses (pos q) x (pos r) y b c low high =
      over_one (q * r) (x *ℤ pos r) (y *ℤ pos q) (between_scaled (pos q) x (pos r) c.some b) (rw (mul_comm q r) (between_scaled (pos r) y (pos q) b.some c))
      (rw (value_at-scaled p x (pos q) (pos r), bound-scaled (pos half) (pos q) (pos r)) (mul-le_ℤ (r * r) (value_at p x (pos q)) (pos half *ℤ (pos q *ℤ pos q)) low))
      (rw (mul_comm q r, value_at-scaled p y (pos r) (pos q), bound-scaled (pos half) (pos r) (pos q))
      (let m = mul-le_ℤ (q * q) (neg_ℤ (pos half *ℤ (pos r *ℤ pos r))) (value_at p y (pos r)) high in
      rw (mul-neg_ℤ (pos (q * q)) (pos half *ℤ (pos r *ℤ pos r))) at m))
  crosses (negsuc q) x r y b c low high = let l = b.some in absurd (omega (arith, ints))
  crosses (pos q) x (negsuc r) y b c low high = let l = c.some in absurd (omega (arith, ints))
