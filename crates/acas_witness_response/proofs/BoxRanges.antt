-- The range and the closing speed of a box's witness are in horizontal contact.
use Rattle.std.proofs.Common.{subst, ◌≡◌, ℕ, ◌+◌, ◌-◌, ◌*◌, ◌<◌, ◌≤◌, ⊎_elim, refl, ap, ap₂, sym, ◌∙◌, arith, [], ◌∷◌, ℤ, pos, ◌*ℤ◌, min, max, mul-le-mul_left, mul-le-mul_right, ◌-ℤ◌, ◌≤ℤ◌, ◌<ℤ◌, unsigned_abs, mul-pos}
use Rattle.std.proofs.lemmas.Bool.{cases_lt}
use Rattle.std.proofs.lemmas.Int.{ints, int_max_is, int_min_is, unsigned_abs-mul}
use Rattle.std.specs.Int.{int_max, int_min}
use Rattle.acas_frac.proofs.SignedProducts.{le-from_mul_ℤ}
use Rattle.acas_frac.proofs.IntRing.{at, num, ◌⊖◌, ◌⊗◌, ring, mul_swapped_ℤ}
use Rattle.acas_flight_lemmas.proofs.Scales.{cancel_left}
use Rattle.acas_flight_lemmas.proofs.Held.{min_scaled}
use Rattle.acas_frac.specs.Fraction.{Fraction, whole_of}
use Rattle.acas_flight.specs.Values.{IsOver}
use Rattle.acas_flight_windows.proofs.Windows.{Near, IsHorizontalContact-of}
use Rattle.acas_flight_windows.proofs.BoxWindows.{IsTimeOfBox, window_of_box, IsInSpans}
use Rattle.acas_flight.specs.State.{Interval, IsInside}
use Rattle.acas_flight.specs.Contact.{IsHorizontalContact}
use Rattle.acas_flight.specs.Window.{IsContactTimeOfBox}
use Rattle.acas_rulings.specs.Ranges.{IsBoxesRange, IsContactOfBox}
use Rattle.acas_areas.proofs.Finer.{IsOver-finer}
use Rattle.acas_witness_response.proofs.CellRanges.{numbers, same_over}
use native.Mathlib.Nat.{le_of_mul-le-mul_left, lt_of_mul-lt-mul_left, mul-lt-mul_of_pos_left}

-- The rule at the time t over q; over some multiple of q the range and the speed are in the box and in horizontal contact.
record IsNearBy (radius near far slow fast q t : ℕ) (distance rate : Fraction) : Type 0 where
  least : (near - radius) * q ≤ slow * t → (rate ≡ whole_of (pos slow)) × IsOver q (pos (max (near * q) (min (far * q) (slow * t)))) distance
  faster : slow * t < (near - radius) * q → (rate.num *ℤ pos t ≡ pos ((near - radius) * q) *ℤ pos rate.den) × (distance ≡ whole_of (pos near))
  m : ℕ
  r : ℕ
  s : ℕ
  some : 0 < m
  range : IsOver (q * m) (pos r) distance
  speed : IsOver (q * m) (pos s) rate
  within : IsInSpans near far slow fast (q * m) r s
  contact : Near radius (q * m) r s (t * m)

max_scaled : (a b n : ℕ) → max (a * n) (b * n) ≡ max a b * n
max_scaled a b n = ⊎_elim
    (λ (l : a < b). let m : max a b ≡ b = omega arith in let k : a * n ≤ b * n = mul-le-mul_right n (omega arith) in rw m (omega arith))
    (λ (l : b ≤ a). let m : max a b ≡ a = omega arith in let k : b * n ≤ a * n = mul-le-mul_right n l in rw m (omega arith))
    (cases_lt a b)

le_over : (x y d q a t : ℕ) → 0 < d → t * d ≡ a * q → x * d ≤ y * a → x * q ≤ y * t
le_over x y d q a t p e h =
    le_of_mul-le-mul_left {m = x * q} {n = y * t} {k = d} (let m = mul-le-mul_right q h in let s = ap (λ z. y * z) e in omega arith) p

ge_over : (x y d q a t : ℕ) → 0 < d → t * d ≡ a * q → y * a ≤ x * d → y * t ≤ x * q
ge_over x y d q a t p e h =
    le_of_mul-le-mul_left {m = y * t} {n = x * q} {k = d} (let m = mul-le-mul_right q h in let s = ap (λ z. y * z) e in omega arith) p

lt_over : (x y d q a t : ℕ) → 0 < q → t * d ≡ a * q → y * a < x * d → y * t < x * q
lt_over x y d q a t p e h =
    lt_of_mul-lt-mul_left d (let m = mul-lt-mul_of_pos_left h p in let s = ap (λ z. y * z) e in omega arith)

-- the nearest range over q
nearest_over : (r : Fraction) (near far slow d q a t : ℕ) → 0 < d → t * d ≡ a * q → r.num *ℤ pos d ≡ pos (max (near * d) (min (far * d) (slow * a))) *ℤ pos r.den → IsOver q (pos (max (near * q) (min (far * q) (slow * t)))) r
nearest_over r near far slow d q a t p e h =
    cancel_left d (pos (max (near * q) (min (far * q) (slow * t)) * r.den)) (r.num *ℤ pos q) p
    (one d (max (near * q) (min (far * q) (slow * t))) r.den ∙ ap (λ z. pos z *ℤ pos r.den) same ∙ two (max (near * d) (min (far * d) (slow * a))) q r.den ∙ ap (λ z. z *ℤ pos q) (sym h) ∙ mul_swapped_ℤ r.num (pos d) (pos q))
  where
    same : max (near * q) (min (far * q) (slow * t)) * d ≡ max (near * d) (min (far * d) (slow * a)) * q
    same =
        let i : (near * q) * d ≡ (near * d) * q = omega arith in
        let j : (far * q) * d ≡ (far * d) * q = omega arith in
        let s = ap (λ z. slow * z) e in
        let k : (slow * t) * d ≡ (slow * a) * q = omega arith in
        sym (max_scaled (near * q) (min (far * q) (slow * t)) d) ∙ ap (λ z. max ((near * q) * d) z) (sym (min_scaled (far * q) (slow * t) d))
        ∙ ap₂ (λ (x y : ℕ). max x y) i (ap₂ (λ (x y : ℕ). min x y) j k)
        ∙ ap (λ z. max ((near * d) * q) z) (min_scaled (far * d) (slow * a) q) ∙ max_scaled (near * d) (min (far * d) (slow * a)) q

    one : (d k n : ℕ) → pos d *ℤ pos (k * n) ≡ pos (k * d) *ℤ pos n
    one d k n = ring (pos d ∷ pos k ∷ pos n ∷ []) (at 0 ⊗ (at 1 ⊗ at 2)) ((at 1 ⊗ at 0) ⊗ at 2) refl

    two : (k q n : ℕ) → pos (k * q) *ℤ pos n ≡ (pos k *ℤ pos n) *ℤ pos q
    two k q n = ring (pos k ∷ pos q ∷ pos n ∷ []) ((at 0 ⊗ at 1) ⊗ at 2) ((at 0 ⊗ at 2) ⊗ at 1) refl

slow_near : (radius near far slow q t r : ℕ) → near ≤ far → r ≡ max (near * q) (min (far * q) (slow * t)) → (near - radius) * q ≤ slow * t → slow * t ≤ (far + radius) * q → Near radius q r (slow * q) t
slow_near radius near far slow q t r o e h k = record {
  not_far = (let l : r ≤ slow * t + radius * q = far_side in let m = mul-le-mul_right q l in omega arith);
  not_past = (let l : slow * t ≤ r + radius * q = past_side in let m = mul-le-mul_right q l in omega arith);
}
  where
    apart : near * q ≤ (near - radius) * q + radius * q
    apart = let l : near ≤ (near - radius) + radius = omega arith in let m = mul-le-mul_right q l in omega arith

    far_side : r ≤ slow * t + radius * q
    far_side = let a = apart in omega arith

    past_side : slow * t ≤ r + radius * q
    past_side = omega arith

at_least_speed : (f r v : Fraction) (radius near far slow fast a d q t : ℕ) → f.num ≡ pos a → f.den ≡ d → 0 < d → 0 < q → IsOver q (pos t) f → near ≤ far → slow ≤ fast → IsTimeOfBox radius near far slow fast d a →
    (near - radius) * d ≤ slow * a → r.num *ℤ pos d ≡ pos (max (near * d) (min (far * d) (slow * a))) *ℤ pos r.den → v ≡ whole_of (pos slow) → IsNearBy radius near far slow fast q t r v
at_least_speed f r v radius near far slow fast a d q t ea ed p s o order speeds w first hr hv =
    let e = numbers f a d q t ea ed o in
    let h = le_over (near - radius) slow d q a t p e first in
    let k = ge_over (far + radius) slow d q a t p e (let l = w.1 in omega arith) in
    let one : q * 1 ≡ q = omega arith in
    let same : t * 1 ≡ t = omega arith in
    record {
      least = λ l. (hv, nearest_over r near far slow d q a t p e hr);
      faster = λ l. absurd (omega arith);
      m = 1;
      r = max (near * q) (min (far * q) (slow * t));
      s = slow * q;
      some = omega arith;
      range = rw one (nearest_over r near far slow d q a t p e hr);
      speed = rw (one, hv) (ring (pos slow ∷ pos q ∷ []) ((at 0 ⊗ at 1) ⊗ num (pos 1)) (at 0 ⊗ at 1) refl);
      within = rw one (record {
        not_near = omega arith;
        not_far = (let m = mul-le-mul_right q order in omega arith);
        not_slow = omega arith;
        not_fast = mul-le-mul_right q speeds;
      });
      contact = rw (one, same) (slow_near radius near far slow q t (max (near * q) (min (far * q) (slow * t))) order refl h k);
    }

at_greater_speed : (f r v : Fraction) (radius near far slow fast a d q t : ℕ) → f.num ≡ pos a → f.den ≡ d → 0 < d → 0 < q → IsOver q (pos t) f → near ≤ far → IsTimeOfBox radius near far slow fast d a →
    slow * a < (near - radius) * d → r ≡ whole_of (pos near) → v.num *ℤ pos a ≡ pos ((near - radius) * d) *ℤ pos v.den → IsNearBy radius near far slow fast q t r v
at_greater_speed f r v radius near far slow fast a d q t ea ed p s o order w first hr hv =
    let e = numbers f a d q t ea ed o in
    let l = lt_over (near - radius) slow d q a t s e first in
    let k : (near - radius) * q ≤ fast * t = le_over (near - radius) fast d q a t p e (let m = w.0 in omega arith) in
    let some : 0 < t = positive t fast ((near - radius) * q) k (omega arith) in
    record {
      least = λ h. absurd (omega arith);
      faster = λ h. (speed_over e, hr);
      m = t;
      r = near * (q * t);
      s = (near - radius) * q * q;
      some = some;
      range = rw hr (ring (pos near ∷ pos q ∷ pos t ∷ []) ((at 0 ⊗ (at 1 ⊗ at 2)) ⊗ num (pos 1)) (at 0 ⊗ (at 1 ⊗ at 2)) refl);
      speed = finer (speed_over e);
      within = record {
        not_near = omega arith;
        not_far = mul-le-mul_right (q * t) order;
        not_slow = (let m = mul-le-mul_left q (let n : slow * t ≤ (near - radius) * q = omega arith in n) in omega arith);
        not_fast = (let m = mul-le-mul_left q k in omega arith);
      };
      contact = record {
        not_far = (let n : near ≤ (near - radius) + radius = omega arith in let m = mul-le-mul_left ((q * t) * (q * t)) n in omega arith);
        not_past = (let n : near - radius ≤ near = omega arith in let m = mul-le-mul_left ((q * t) * (q * t)) n in omega arith);
      };
    }
  where
    positive : (t n x : ℕ) → x ≤ n * t → 0 < x → 0 < t
    positive t n x h k = ⊎_elim (λ (l : 0 < t). l) (λ (l : t ≤ 0). let z : t ≡ 0 = omega arith in absurd (let m : x ≤ n * 0 = rw z at h in omega arith)) (cases_lt 0 t)

    speed_over : t * d ≡ a * q → v.num *ℤ pos t ≡ pos ((near - radius) * q) *ℤ pos v.den
    speed_over e = cancel_left d (v.num *ℤ pos t) (pos ((near - radius) * q) *ℤ pos v.den) p
        (ring (pos d ∷ v.num ∷ pos t ∷ []) (at 0 ⊗ (at 1 ⊗ at 2)) (at 1 ⊗ (at 2 ⊗ at 0)) refl ∙ ap (λ z. v.num *ℤ pos z) e
        ∙ ring (v.num ∷ pos a ∷ pos q ∷ []) (at 0 ⊗ (at 1 ⊗ at 2)) ((at 0 ⊗ at 1) ⊗ at 2) refl ∙ ap (λ z. z *ℤ pos q) hv
        ∙ ring (pos (near - radius) ∷ pos d ∷ pos v.den ∷ pos q ∷ []) (((at 0 ⊗ at 1) ⊗ at 2) ⊗ at 3) (at 1 ⊗ ((at 0 ⊗ at 3) ⊗ at 2)) refl)

    finer : v.num *ℤ pos t ≡ pos ((near - radius) * q) *ℤ pos v.den → IsOver (q * t) (pos ((near - radius) * q * q)) v
    finer h =
        ring (pos (near - radius) ∷ pos q ∷ pos v.den ∷ []) (((at 0 ⊗ at 1) ⊗ at 1) ⊗ at 2) (((at 0 ⊗ at 1) ⊗ at 2) ⊗ at 1) refl ∙ ap (λ z. z *ℤ pos q) (sym h)
        ∙ ring (v.num ∷ pos t ∷ pos q ∷ []) ((at 0 ⊗ at 1) ⊗ at 2) (at 0 ⊗ (at 2 ⊗ at 1)) refl

-- ---- over each denominator

abbrev interval : ℕ → ℕ → Interval
interval a b = record { least = pos a; greatest = pos b }

to_room : (near radius slow q t : ℕ) → ((pos near -ℤ pos radius) *ℤ pos q) ≤ℤ (pos slow *ℤ pos t) → (near - radius) * q ≤ slow * t
to_room near radius slow q t h = ⊎_elim
    (λ (l : near < radius). let e : near - radius ≡ 0 = omega arith in rw e (omega arith))
    (λ (l : radius ≤ near). by (near - radius) (omega arith))
    (cases_lt near radius)
  where
    by : (d : ℕ) → near ≡ radius + d → (near - radius) * q ≤ slow * t
    by d e = let f : near - radius ≡ d = omega arith in let g : pos near -ℤ pos radius ≡ pos d = omega (arith, ints) in let k = rw g at h in rw f (omega (arith, ints))

from_room : (near radius slow q t : ℕ) → (pos slow *ℤ pos t) <ℤ ((pos near -ℤ pos radius) *ℤ pos q) →
    (slow * t < (near - radius) * q) × (pos ((near - radius) * q) ≡ (pos near -ℤ pos radius) *ℤ pos q)
from_room near radius slow q t h = ⊎_elim
    (λ (l : near < radius). absurd (short (radius - near) (omega arith)))
    (λ (l : radius ≤ near). by (near - radius) (omega arith))
    (cases_lt near radius)
  where
    short : (d : ℕ) → radius ≡ near + d → ⊥
    short d e =
        let g : pos near -ℤ pos radius ≡ pos 0 -ℤ pos d = omega (arith, ints) in
        let k = rw g at h in
        let n = ring (pos d ∷ pos q ∷ []) ((num (pos 0) ⊖ at 0) ⊗ at 1) (num (pos 0) ⊖ (at 0 ⊗ at 1)) refl in
        let k' = rw n at k in omega (arith, ints)

    by : (d : ℕ) → near ≡ radius + d → (slow * t < (near - radius) * q) × (pos ((near - radius) * q) ≡ (pos near -ℤ pos radius) *ℤ pos q)
    by d e =
        let f : near - radius ≡ d = omega arith in
        let g : pos near -ℤ pos radius ≡ pos d = omega (arith, ints) in
        let k = rw g at h in
        rw (f, g) (omega (arith, ints), omega (arith, ints))

nearest_is : (near far q n : ℕ) → pos (max (near * q) (min (far * q) n)) ≡ int_max (pos near *ℤ pos q) (int_min (pos far *ℤ pos q) (pos n))
nearest_is near far q n =
    let e = int_min_is (pos (far * q)) (pos n) in
    let f = int_max_is (pos (near * q)) (int_min (pos (far * q)) (pos n)) in
    omega (arith, ints, e, f)

-- two fractions of one value: where one is within an interval so is the other
inside_of : (n q a b r : ℕ) (x : ℤ) (f : Fraction) → 0 < n → 0 < f.den → IsOver n (pos r) f → IsOver q x f → a * n ≤ r → r ≤ b * n → IsInside q (interval a b) x
inside_of n q a b r x f p pf o ox h k = (
  le-from_mul_ℤ n (pos a *ℤ pos q) x p (rw (turn a q n, same) (let m = mul-le-mul_right q h in omega (arith, ints))),
  le-from_mul_ℤ n x (pos b *ℤ pos q) p (rw (turn b q n, same) (let m = mul-le-mul_right q k in omega (arith, ints))),
)
  where
    turn : (a q n : ℕ) → pos n *ℤ (pos a *ℤ pos q) ≡ pos ((a * n) * q)
    turn a q n = ring (pos a ∷ pos q ∷ pos n ∷ []) (at 2 ⊗ (at 0 ⊗ at 1)) ((at 0 ⊗ at 2) ⊗ at 1) refl

    same : pos n *ℤ x ≡ pos (r * q)
    same = cancel_left f.den (pos n *ℤ x) (pos (r * q)) pf
        (ring (pos f.den ∷ pos n ∷ x ∷ []) (at 0 ⊗ (at 1 ⊗ at 2)) ((at 2 ⊗ at 0) ⊗ at 1) refl ∙ ap (λ z. z *ℤ pos n) ox
        ∙ ring (f.num ∷ pos q ∷ pos n ∷ []) ((at 0 ⊗ at 1) ⊗ at 2) ((at 0 ⊗ at 2) ⊗ at 1) refl ∙ ap (λ z. z *ℤ pos q) (sym o)
        ∙ ring (pos r ∷ pos f.den ∷ pos q ∷ []) ((at 0 ⊗ at 1) ⊗ at 2) (at 1 ⊗ (at 0 ⊗ at 2)) refl)

coarser : (radius q m t : ℕ) (x y : ℤ) → 0 < m → IsHorizontalContact radius (q * m) (x *ℤ pos m) (y *ℤ pos m) (t * m) → IsHorizontalContact radius q x y t
coarser radius q m t x y p h =
    le_of_mul-le-mul_left {m = unsigned_abs (x *ℤ pos q -ℤ y *ℤ pos t)} {n = radius * (q * q)} {k = m * m}
    (let e = ap unsigned_abs spread ∙ unsigned_abs-mul (x *ℤ pos q -ℤ y *ℤ pos t) (pos (m * m)) in
    let k = rw e at h in omega (arith, k)) (mul-pos p p)
  where
    spread : (x *ℤ pos m) *ℤ pos (q * m) -ℤ (y *ℤ pos m) *ℤ pos (t * m) ≡ (x *ℤ pos q -ℤ y *ℤ pos t) *ℤ pos (m * m)
    spread = ring (x ∷ y ∷ pos m ∷ pos q ∷ pos t ∷ []) (((at 0 ⊗ at 2) ⊗ (at 3 ⊗ at 2)) ⊖ ((at 1 ⊗ at 2) ⊗ (at 4 ⊗ at 2))) (((at 0 ⊗ at 3) ⊖ (at 1 ⊗ at 4)) ⊗ (at 2 ⊗ at 2)) refl

module _ (radius near far slow fast : ℕ) (f r v : Fraction) (a d : ℕ) (ea : f.num ≡ pos a) (ed : f.den ≡ d) (p : 0 < d) (pr : 0 < r.den) (pv : 0 < v.den)
    (near_by : (q t : ℕ) → 0 < q → IsOver q (pos t) f → IsNearBy radius near far slow fast q t r v) where
  boxes_range : IsBoxesRange radius (interval near far) (interval slow fast) f r v
  boxes_range = record {
    slowest = λ q t s o h. let n = (near_by q t s o).least (to_room near radius slow q t h) in (n.0, subst (λ (z : ℤ). IsOver q z r) (nearest_is near far q (slow * t)) n.1);
    faster = λ q t s o h. let k = from_room near radius slow q t h in let n = (near_by q t s o).faster k.0 in (subst (λ (z : ℤ). v.num *ℤ pos t ≡ z *ℤ pos v.den) k.1 n.0, n.1);
  }

  at_time : IsNearBy radius near far slow fast d a r v
  at_time = near_by d a p (rw (ea, ed) (ring (pos a ∷ pos d ∷ []) (at 0 ⊗ at 1) (at 0 ⊗ at 1) refl))

  contact_of_box : IsContactOfBox radius (interval near far) (interval slow fast) f r v
  contact_of_box = record {
    range_in = λ q x s ox. inside_of (d * at_time.m) q near far at_time.r x r (mul-pos p at_time.some) pr at_time.range ox at_time.within.not_near at_time.within.not_far;
    speed_in = λ q y s oy. inside_of (d * at_time.m) q slow fast at_time.s y v (mul-pos p at_time.some) pv at_time.speed oy at_time.within.not_slow at_time.within.not_fast;
    contact = λ q t x y s o ox oy. by q t x y (near_by q t s o) ox oy;
  }
    where
      by : (q t : ℕ) (x y : ℤ) → IsNearBy radius near far slow fast q t r v → IsOver q x r → IsOver q y v → IsHorizontalContact radius q x y t
      by q t x y n ox oy = coarser radius q n.m t x y n.some
          (rw (same_over (q * n.m) (x *ℤ pos n.m) (pos n.r) r pr (IsOver-finer r q n.m x ox) n.range, same_over (q * n.m) (y *ℤ pos n.m) (pos n.s) v pv (IsOver-finer v q n.m y oy) n.speed)
          (IsHorizontalContact-of radius (q * n.m) n.r n.s (t * n.m) n.contact))

-- ---- by the speed

abbrev IsPair : ℕ → ℕ → ℕ → ℕ → ℕ → Fraction → Fraction → Fraction → Type 0
IsPair radius near far slow fast f r v = IsBoxesRange radius (interval near far) (interval slow fast) f r v × IsContactOfBox radius (interval near far) (interval slow fast) f r v

module _ (f r v : Fraction) (radius near far slow fast a d : ℕ) (ea : f.num ≡ pos a) (ed : f.den ≡ d) (p : 0 < d) (ranges : near ≤ far) (speeds : slow ≤ fast)
    (time : IsContactTimeOfBox radius (interval near far) (interval slow fast) f.den (unsigned_abs f.num)) (pr : 0 < r.den) (pv : 0 < v.den) where
  window : IsTimeOfBox radius near far slow fast d a
  window = (window_of_box radius (interval near far) (interval slow fast) near far slow fast d a refl refl refl refl p ranges speeds).1 (during f.den f.num ea ed time)
    where
      during : (d' : ℕ) (z : ℤ) → z ≡ pos a → d' ≡ d → IsContactTimeOfBox radius (interval near far) (interval slow fast) d' (unsigned_abs z) → IsContactTimeOfBox radius (interval near far) (interval slow fast) d a
      during d' z ea ed w = rw (ea, ed) at w

  pub pair_at_least : (near - radius) * d ≤ slow * a → r.num *ℤ pos d ≡ pos (max (near * d) (min (far * d) (slow * a))) *ℤ pos r.den → v ≡ whole_of (pos slow) → IsPair radius near far slow fast f r v
  pair_at_least first hr hv =
      let n = λ (q t : ℕ) (s : 0 < q) (o : IsOver q (pos t) f). at_least_speed f r v radius near far slow fast a d q t ea ed p s o ranges speeds window first hr hv in
      (boxes_range radius near far slow fast f r v a d ea ed p pr pv n, contact_of_box radius near far slow fast f r v a d ea ed p pr pv n)

  pub pair_at_greater : slow * a < (near - radius) * d → r ≡ whole_of (pos near) → v.num *ℤ pos a ≡ pos ((near - radius) * d) *ℤ pos v.den → IsPair radius near far slow fast f r v
  pair_at_greater first hr hv =
      let n = λ (q t : ℕ) (s : 0 < q) (o : IsOver q (pos t) f). at_greater_speed f r v radius near far slow fast a d q t ea ed p s o ranges window first hr hv in
      (boxes_range radius near far slow fast f r v a d ea ed p pr pv n, contact_of_box radius near far slow fast f r v a d ea ed p pr pv n)

-- some time is flown where the least speed does not fly the range
pub some_time : (radius near far slow fast a d d' : ℕ) (z : ℤ) → z ≡ pos a → d' ≡ d → 0 < d → near ≤ far → slow ≤ fast →
    IsContactTimeOfBox radius (interval near far) (interval slow fast) d' (unsigned_abs z) → slow * a < (near - radius) * d → 0 < a
some_time radius near far slow fast a d d' z ea ed p ranges speeds time h =
    let w = (window_of_box radius (interval near far) (interval slow fast) near far slow fast d a refl refl refl refl p ranges speeds).1 (rw (ea, ed) at time) in
    positive a fast ((near - radius) * d) w.0 (omega arith)
  where
    positive : (t n x : ℕ) → x ≤ t * n → 0 < x → 0 < t
    positive t n x h k = ⊎_elim (λ (l : 0 < t). l) (λ (l : t ≤ 0). let z : t ≡ 0 = omega arith in absurd (let m : x ≤ 0 * n = rw z at h in omega arith)) (cases_lt 0 t)

-- the intervals under the names of a box's
pub pair_renamed : (radius n near far slow fast : ℕ) (ranges speeds : Interval) (f r v : Fraction) → radius ≡ n → ranges.least ≡ pos near → ranges.greatest ≡ pos far → speeds.least ≡ pos slow → speeds.greatest ≡ pos fast →
    IsPair radius near far slow fast f r v → IsBoxesRange n ranges speeds f r v × IsContactOfBox n ranges speeds f r v
pair_renamed radius n near far slow fast ranges speeds f r v e e1 e2 e3 e4 h =
    by n ranges speeds e (ap₂ (λ (x y : ℤ). record { least = x; greatest = y }) (sym e1) (sym e2)) (ap₂ (λ (x y : ℤ). record { least = x; greatest = y }) (sym e3) (sym e4))
  where
    by : (n : ℕ) (i j : Interval) → radius ≡ n → interval near far ≡ i → interval slow fast ≡ j → IsBoxesRange n i j f r v × IsContactOfBox n i j f r v
    by n i j e g k = rw (← e, ← g, ← k) h

pub during_renamed : (radius n near far slow fast d a : ℕ) (ranges speeds : Interval) → radius ≡ n → ranges.least ≡ pos near → ranges.greatest ≡ pos far → speeds.least ≡ pos slow → speeds.greatest ≡ pos fast →
    IsContactTimeOfBox n ranges speeds d a → IsContactTimeOfBox radius (interval near far) (interval slow fast) d a
during_renamed radius n near far slow fast d a ranges speeds e e1 e2 e3 e4 h =
    by radius (interval near far) (interval slow fast) e (ap₂ (λ (x y : ℤ). record { least = x; greatest = y }) (sym e1) (sym e2)) (ap₂ (λ (x y : ℤ). record { least = x; greatest = y }) (sym e3) (sym e4))
  where
    by : (radius : ℕ) (i j : Interval) → radius ≡ n → i ≡ ranges → j ≡ speeds → IsContactTimeOfBox radius i j d a
    by radius i j e g k = rw (e, g, k) h
