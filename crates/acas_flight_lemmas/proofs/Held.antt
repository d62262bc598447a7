-- The curve with its hold in other denominators, and in one form for rates on either side of the aim.
use Rattle.std.proofs.Common.{◌≡◌, ℕ, ◌+◌, ◌-◌, ◌*◌, ◌<◌, ◌≤◌, ⊎_elim, refl, sym, ap, ap₂, ◌∙◌, arith, true, false, [], ◌∷◌, ℤ, pos, ◌+ℤ◌, ◌-ℤ◌, ◌*ℤ◌, neg_ℤ, unsigned_abs, int_le, min, mul-le-mul_right, mul-pos}
use native.Mathlib.Nat.{mul-sub}
use Rattle.std.proofs.lemmas.Int.{ints}
use Rattle.std.proofs.lemmas.Bool.{cases_lt}
use Rattle.acas_frac.proofs.IntRing.{at, num, ◌⊕◌, ◌⊗◌, ring}
use Rattle.acas_frac.proofs.Squares.{sq, sq_le}
use Rattle.acas_frac.proofs.Orders.{by_below, by_above, cases_lt_ℤ}
use Rattle.acas_flight.proofs.Curves.{steady}
use Rattle.acas_flight_lemmas.proofs.Rising.{held_below}
use Rattle.acas_flight_lemmas.proofs.Mirror.{turned_held, steady_turned}
use Rattle.acas_flight_lemmas.proofs.Scales.{cancel_left, pos_inj, approach-scaled, over_both}
use Rattle.acas_flight.specs.Curves.{approach, held}
use Rattle.acas_flight.specs.Values.{IsOver, IsHeld, all_lost, less_or_more}
use Rattle.acas_frac.specs.Fraction.{Fraction}

pub down : (k : ℤ) (u : ℕ) → neg_ℤ k -ℤ pos u ≡ neg_ℤ (k +ℤ pos u)
down k u = omega (arith, ints)

pub turned : (k : ℤ) (u b g t : ℕ) → held (neg_ℤ k -ℤ pos u) (neg_ℤ k) b g t ≡ neg_ℤ (held (k +ℤ pos u) k b g t)
turned k u b g t = ap (λ v. held v (neg_ℤ k) b g t) (down k u) ∙ turned_held (k +ℤ pos u) k b g t

pub min_scaled : (t g n : ℕ) → min (t * n) (g * n) ≡ min t g * n
min_scaled t g n =
    ⊎_elim
    (λ (l : t < g). let m : min t g ≡ t = omega arith in let k : t * n ≤ g * n = mul-le-mul_right n (omega arith) in rw m (omega arith))
    (λ (l : g ≤ t). let m : min t g ≡ g = omega arith in let k : g * n ≤ t * n = mul-le-mul_right n l in rw m (omega arith))
    (cases_lt t g)

pub sub_scaled : (t g n : ℕ) → t * n - g * n ≡ (t - g) * n
sub_scaled t g n =
    let out = mul-sub n t g in
    let l : t * n ≡ n * t = omega arith in
    let r : g * n ≡ n * g = omega arith in
    let k : (t - g) * n ≡ n * (t - g) = omega arith in
    rw (l, r, k) (sym out)

-- Accelerations m times as large and times n times as long scale rates by m*n.
pub held-scaled : (v k : ℤ) (b g t m n : ℕ) → held (v *ℤ pos (m * n)) (k *ℤ pos (m * n)) (b * m) (g * n) (t * n) ≡ held v k b g t *ℤ pos ((m * n) * (m * n))
held-scaled v k b g t m n =
    ap₂ (λ (i j : ℕ). (((pos 2 *ℤ (v *ℤ pos (m * n))) *ℤ pos i) *ℤ pos (b * m)) +ℤ approach (v *ℤ pos (m * n)) (k *ℤ pos (m * n)) (b * m) j) (min_scaled t g n) (sub_scaled t g n)
    ∙ ap (λ z. (((pos 2 *ℤ (v *ℤ pos (m * n))) *ℤ pos (min t g * n)) *ℤ pos (b * m)) +ℤ z) (approach-scaled v k b (t - g) m n)
    ∙ ring (v ∷ pos (min t g) ∷ pos b ∷ pos m ∷ pos n ∷ approach v k b (t - g) ∷ [])
    ((((num (pos 2) ⊗ (at 0 ⊗ (at 3 ⊗ at 4))) ⊗ (at 1 ⊗ at 4)) ⊗ (at 2 ⊗ at 3)) ⊕ (at 5 ⊗ ((at 3 ⊗ at 4) ⊗ (at 3 ⊗ at 4))))
    (((((num (pos 2) ⊗ at 0) ⊗ at 1) ⊗ at 2) ⊕ at 5) ⊗ ((at 3 ⊗ at 4) ⊗ (at 3 ⊗ at 4)))
    refl

-- A curve that is known over one pair of denominators, c of accelerations and d of times, is the curve.
pub IsHeld-over : (v k b g t y : Fraction) (c d : ℕ) (vn kn : ℤ) (bn gn tn : ℕ) → 0 < v.den → 0 < k.den → 0 < b.den → 0 < g.den → 0 < t.den → 0 < c → 0 < d →
    IsOver (c * d) vn v → IsOver (c * d) kn k → IsOver c (pos bn) b → IsOver d (pos gn) g → IsOver d (pos tn) t →
    y.num *ℤ pos (c * d * d * bn) ≡ held vn kn bn gn tn *ℤ pos y.den → IsHeld v k b g t y
IsHeld-over v k b g t y c d vn kn bn gn tn pv pk pb pg pt pc pd iv ik ib ig it e = record { over = λ q vq kq bq gq tq p jv jk jb jg jt. at_q q vq kq bq gq tq p jv jk jb jg jt }
  where
    first : (y : ℤ) (c d q b : ℕ) → pos ((c * d) * (c * d)) *ℤ (y *ℤ pos (q * q * q * b)) ≡ (y *ℤ pos (q * q * q)) *ℤ pos ((b * c) * (c * d * d))
    first y c d q b = ring (y ∷ pos c ∷ pos d ∷ pos q ∷ pos b ∷ [])
        (((at 1 ⊗ at 2) ⊗ (at 1 ⊗ at 2)) ⊗ (at 0 ⊗ (((at 3 ⊗ at 3) ⊗ at 3) ⊗ at 4)))
        ((at 0 ⊗ ((at 3 ⊗ at 3) ⊗ at 3)) ⊗ ((at 4 ⊗ at 1) ⊗ ((at 1 ⊗ at 2) ⊗ at 2)))
        refl

    second : (y : ℤ) (c d q b : ℕ) → (y *ℤ pos (q * q * q)) *ℤ pos ((b * q) * (c * d * d)) ≡ pos ((q * q) * (q * q)) *ℤ (y *ℤ pos (c * d * d * b))
    second y c d q b = ring (y ∷ pos c ∷ pos d ∷ pos q ∷ pos b ∷ [])
        ((at 0 ⊗ ((at 3 ⊗ at 3) ⊗ at 3)) ⊗ ((at 4 ⊗ at 3) ⊗ ((at 1 ⊗ at 2) ⊗ at 2)))
        (((at 3 ⊗ at 3) ⊗ (at 3 ⊗ at 3)) ⊗ (at 0 ⊗ (((at 1 ⊗ at 2) ⊗ at 2) ⊗ at 4)))
        refl

    third : (a : ℤ) (q : ℕ) (n : ℤ) → pos ((q * q) * (q * q)) *ℤ (a *ℤ n) ≡ (a *ℤ pos ((q * q) * (q * q))) *ℤ n
    third a q n = ring (a ∷ pos q ∷ n ∷ []) (((at 1 ⊗ at 1) ⊗ (at 1 ⊗ at 1)) ⊗ (at 0 ⊗ at 2)) ((at 0 ⊗ ((at 1 ⊗ at 1) ⊗ (at 1 ⊗ at 1))) ⊗ at 2) refl

    last : (a : ℤ) (c d : ℕ) (n : ℤ) → (a *ℤ pos ((c * d) * (c * d))) *ℤ n ≡ pos ((c * d) * (c * d)) *ℤ (a *ℤ n)
    last a c d n = ring (a ∷ pos c ∷ pos d ∷ n ∷ []) ((at 0 ⊗ ((at 1 ⊗ at 2) ⊗ (at 1 ⊗ at 2))) ⊗ at 3) (((at 1 ⊗ at 2) ⊗ (at 1 ⊗ at 2)) ⊗ (at 0 ⊗ at 3)) refl

    at_q : (q : ℕ) (vq kq : ℤ) (bq gq tq : ℕ) → 0 < q → IsOver (q * q) vq v → IsOver (q * q) kq k → IsOver q (pos bq) b → IsOver q (pos gq) g → IsOver q (pos tq) t →
        y.num *ℤ pos (q * q * q * bq) ≡ held vq kq bq gq tq *ℤ pos y.den
    at_q q vq kq bq gq tq p jv jk jb jg jt =
        let ev = over_both (c * d) (q * q) vn vq v pv iv jv in
        let ek = over_both (c * d) (q * q) kn kq k pk ik jk in
        let eb = pos_inj (bq * c) (bn * q) (over_both c q (pos bn) (pos bq) b pb ib jb) in
        let eg = pos_inj (gq * d) (gn * q) (over_both d q (pos gn) (pos gq) g pg ig jg) in
        let et = pos_inj (tq * d) (tn * q) (over_both d q (pos tn) (pos tq) t pt it jt) in
        let one = held-scaled vq kq bq gq tq c d in
        let two = held-scaled vn kn bn gn tn q q in
        let same : held vq kq bq gq tq *ℤ pos ((c * d) * (c * d)) ≡ held vn kn bn gn tn *ℤ pos ((q * q) * (q * q)) =
        sym one ∙ ap₂ (λ (v k : ℤ). held v k (bq * c) (gq * d) (tq * d)) ev ek ∙ ap₂ (λ (b t : ℕ). held (vn *ℤ pos (q * q)) (kn *ℤ pos (q * q)) b (gq * d) t) eb et
        ∙ ap (λ (g : ℕ). held (vn *ℤ pos (q * q)) (kn *ℤ pos (q * q)) (bn * q) g (tn * q)) eg ∙ two in
        cancel_left ((c * d) * (c * d)) (y.num *ℤ pos (q * q * q * bq)) (held vq kq bq gq tq *ℤ pos y.den) (mul-pos (mul-pos pc pd) (mul-pos pc pd))
        (first y.num c d q bq ∙ ap (λ n. (y.num *ℤ pos (q * q * q)) *ℤ pos (n * (c * d * d))) eb ∙ second y.num c d q bn
        ∙ ap (λ z. pos ((q * q) * (q * q)) *ℤ z) e ∙ third (held vn kn bn gn tn) q (pos y.den) ∙ ap (λ z. z *ℤ pos y.den) (sym same) ∙ last (held vq kq bq gq tq) c d (pos y.den))

-- the curve with its hold from u above the aim
pub held_above : (k : ℤ) (u b g t : ℕ) → held (k +ℤ pos u) k b g t ≡ ((steady k t b +ℤ pos ((u + u) * (b * min t g))) +ℤ pos (u * u)) -ℤ pos (sq (u - b * (t - g)))
held_above k u b g t =
    line (held (k +ℤ pos u) k b g t) (steady k t b) _ _ ((u + u) * (b * min t g)) (u * u) (sq (u - b * (t - g)))
    (turned k u b g t) (steady_turned k t b) (held_below (neg_ℤ k) u b g t)
  where
    line : (h s h' s' : ℤ) (p m i : ℕ) → h' ≡ neg_ℤ h → s' ≡ neg_ℤ s → h' ≡ ((s' -ℤ pos p) -ℤ pos m) +ℤ pos i → h ≡ ((s +ℤ pos p) +ℤ pos m) -ℤ pos i
    line h s h' s' p m i e f g = omega (arith, ints)

pub held_one_form : (v k : ℤ) (b g t : ℕ) → held v k b g t ≡ less_or_more (int_le v k) (steady k t b) (all_lost (unsigned_abs (k -ℤ v)) (b * min t g) (b * (t - g)))
held_one_form v k b g t =
    ⊎_elim
    (λ h. by_below k v (omega (arith, ints)) (λ x e. below x e))
    (λ h. by_above k v h (λ x e. above x e))
    (cases_lt_ℤ v k)
  where
    less : (s : ℤ) (p m i : ℕ) → i ≤ m → ((s -ℤ pos p) -ℤ pos m) +ℤ pos i ≡ s -ℤ pos (p + (m - i))
    less s p m i h = omega (arith, ints)

    more : (s : ℤ) (p m i : ℕ) → i ≤ m → ((s +ℤ pos p) +ℤ pos m) -ℤ pos i ≡ s +ℤ pos (p + (m - i))
    more s p m i h = omega (arith, ints)

    rising : (x : ℕ) → held (k -ℤ pos x) k b g t ≡ steady k t b -ℤ pos (all_lost x (b * min t g) (b * (t - g)))
    rising x = held_below k x b g t ∙ less (steady k t b) ((x + x) * (b * min t g)) (x * x) (sq (x - b * (t - g))) (sq_le (x - b * (t - g)) x (omega arith))

    falling : (x : ℕ) → held (k +ℤ pos x) k b g t ≡ steady k t b +ℤ pos (all_lost x (b * min t g) (b * (t - g)))
    falling x = held_above k x b g t ∙ more (steady k t b) ((x + x) * (b * min t g)) (x * x) (sq (x - b * (t - g))) (sq_le (x - b * (t - g)) x (omega arith))

    below : (x : ℕ) → v ≡ k -ℤ pos x → held v k b g t ≡ less_or_more (int_le v k) (steady k t b) (all_lost (unsigned_abs (k -ℤ v)) (b * min t g) (b * (t - g)))
    below x e =
        let way : unsigned_abs (k -ℤ v) ≡ x = omega (arith, ints) in
        let test : true ≡ int_le v k = omega (arith, ints) in
        rw (way, ← test, e) (rising x)

    above : (x : ℕ) → v ≡ k +ℤ pos x → held v k b g t ≡ less_or_more (int_le v k) (steady k t b) (all_lost (unsigned_abs (k -ℤ v)) (b * min t g) (b * (t - g)))
    above x e =
        let way : unsigned_abs (k -ℤ v) ≡ x = omega (arith, ints) in
        ⊎_elim
        (λ (l : x < 1).
        let none : x ≡ 0 = omega arith in
        let test : true ≡ int_le v k = omega (arith, ints) in
        let same : k +ℤ pos 0 ≡ k -ℤ pos 0 = omega (arith, ints) in
        rw (way, ← test, e, none, same) (rising 0))
        (λ (l : 1 ≤ x).
        let test : false ≡ int_le v k = omega (arith, ints) in
        rw (way, ← test, e) (falling x))
        (cases_lt x 1)
