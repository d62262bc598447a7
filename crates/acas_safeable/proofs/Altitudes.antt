-- Where a response that meets an advisory leads within a second: altitudes and rates over powers of q, against their rounded ends.
use Rattle.std.proofs.Common.{◌≡◌, ℕ, ◌*◌, ◌<◌, ⊎_elim, refl, ap, ◌∙◌, arith, List, [], ◌∷◌, ℤ, pos, ◌+ℤ◌, ◌-ℤ◌, ◌*ℤ◌, ◌≤ℤ◌}
use Rattle.std.specs.Int.{int_max, int_min}
use Rattle.std.proofs.lemmas.Int.{ints, clamps}
use Rattle.acas_frac.proofs.IntRing.{at, num, ◌⊕◌, ◌⊖◌, ◌⊗◌, ring, sub-mul_ℤ}
use Rattle.acas_frac.proofs.Orders.{cases_lt_ℤ, le_of_lt_ℤ}
use Rattle.acas_frac.proofs.RoundingLaws.{down_is_floor, up_is_ceiling}
use Rattle.acas_frac.proofs.SignedProducts.{add-mul_ℤ, le-from_mul_ℤ, mul-le_ℤ}
use Rattle.acas_flight.proofs.Between.{test_ge, test_lt}
use Rattle.acas_flight_lemmas.proofs.Models.{scaled_can_be_met}
use Rattle.acas_flight_lemmas.proofs.Rising.{scaled_le}
use Rattle.acas_flight_lemmas.proofs.Gaps.{high_pull-over, low_pull-over}
use Rattle.acas_flight_lemmas.proofs.Safe.{greatest_start, high_bound, high_pull-some, least_start, low_bound, low_pull-some}
use Rattle.acas_flight.specs.Contact.{vertical_separation}
use Rattle.acas_flight.specs.Curves.{high_pull, highest, low_pull, lowest}
use Rattle.acas_flight.specs.Parts.{CanBeMet}
use Rattle.acas_flight.specs.Response.{Demand, Meets, Segment, climb, lasting, scaled}
use Rattle.acas_flight.specs.State.{Interval}
use Rattle.acas_safeable.specs.Reached.{greatest_altitude, greatest_rate, least_altitude, least_rate}
use Rattle.acas_safeable.specs.Safe.{rate_left}
use Rattle.acas_safeable.proofs.Bounds.{highest-over, lowest-over}
use Rattle.acas_safeable.proofs.Rates.{left_high, left_low, left_near}

-- ---- altitudes: the intruder's altitude h and rate x over q, the own climb z over q^3; p is the pull

module _ (p q : ℕ) (sp : 0 < p) (sq : 0 < q) (h x z H W L G : ℤ) where
  abbrev cube : ℕ
  cube = q * q * q

  less_climb : pos p *ℤ vertical_separation q h x q z ≡ (pos p *ℤ ((h *ℤ pos (q * q)) +ℤ (((pos 2 *ℤ x) *ℤ pos q) *ℤ pos q))) -ℤ (z *ℤ pos p)
  less_climb = ring (pos p ∷ h ∷ x ∷ z ∷ pos q ∷ [])
      (at 0 ⊗ (((at 1 ⊗ (at 4 ⊗ at 4)) ⊕ (((num (pos 2) ⊗ at 2) ⊗ at 4) ⊗ at 4)) ⊖ at 3))
      ((at 0 ⊗ ((at 1 ⊗ (at 4 ⊗ at 4)) ⊕ (((num (pos 2) ⊗ at 2) ⊗ at 4) ⊗ at 4))) ⊖ (at 3 ⊗ at 0))
      refl

  end_line : pos p *ℤ (((H *ℤ pos q) *ℤ pos (q * q)) +ℤ (((pos 2 *ℤ (W *ℤ pos q)) *ℤ pos q) *ℤ pos q)) ≡ ((H +ℤ pos 2 *ℤ W) *ℤ pos p) *ℤ pos cube
  end_line = ring (pos p ∷ H ∷ W ∷ pos q ∷ [])
      (at 0 ⊗ (((at 1 ⊗ at 3) ⊗ (at 3 ⊗ at 3)) ⊕ (((num (pos 2) ⊗ (at 2 ⊗ at 3)) ⊗ at 3) ⊗ at 3)))
      (((at 1 ⊕ (num (pos 2) ⊗ at 2)) ⊗ at 0) ⊗ ((at 3 ⊗ at 3) ⊗ at 3))
      refl

  curve : pos q *ℤ (L *ℤ pos cube) ≡ L *ℤ pos ((q * q) * (q * q))
  curve = ring (L ∷ pos q ∷ []) (at 1 ⊗ (at 0 ⊗ ((at 1 ⊗ at 1) ⊗ at 1))) (at 0 ⊗ ((at 1 ⊗ at 1) ⊗ (at 1 ⊗ at 1))) refl

  flown : pos q *ℤ (z *ℤ pos p) ≡ z *ℤ pos (p * q)
  flown = ring (z ∷ pos p ∷ pos q ∷ []) (at 2 ⊗ (at 0 ⊗ at 1)) (at 0 ⊗ (at 1 ⊗ at 2)) refl

  rounded : (pos p *ℤ G) *ℤ pos cube ≡ pos p *ℤ (G *ℤ pos cube)
  rounded = ring (pos p ∷ G ∷ pos q ∷ []) ((at 0 ⊗ at 1) ⊗ ((at 2 ⊗ at 2) ⊗ at 2)) (at 0 ⊗ (at 1 ⊗ ((at 2 ⊗ at 2) ⊗ at 2))) refl

  pub under_top : h ≤ℤ (H *ℤ pos q) → x ≤ℤ (W *ℤ pos q) → (L *ℤ pos ((q * q) * (q * q))) ≤ℤ (z *ℤ pos (p * q)) →
      (((H +ℤ pos 2 *ℤ W) *ℤ pos p) -ℤ L) ≤ℤ (pos p *ℤ G) → vertical_separation q h x q z ≤ℤ (G *ℤ pos (q * q * q))
  under_top i j low round =
      let line = mul-le_ℤ p ((h *ℤ pos (q * q)) +ℤ (((pos 2 *ℤ x) *ℤ pos q) *ℤ pos q)) (((H *ℤ pos q) *ℤ pos (q * q)) +ℤ (((pos 2 *ℤ (W *ℤ pos q)) *ℤ pos q) *ℤ pos q))
      (sums _ _ _ _ (scaled_le h (H *ℤ pos q) (q * q) i) (scaled_le ((pos 2 *ℤ x) *ℤ pos q) ((pos 2 *ℤ (W *ℤ pos q)) *ℤ pos q) q (scaled_le (pos 2 *ℤ x) (pos 2 *ℤ (W *ℤ pos q)) q (mul-le_ℤ 2 x (W *ℤ pos q) j)))) in
      let climbs = le-from_mul_ℤ q (L *ℤ pos cube) (z *ℤ pos p) sq (rw (curve, flown) low) in
      let ends = scaled_le (((H +ℤ pos 2 *ℤ W) *ℤ pos p) -ℤ L) (pos p *ℤ G) cube round in
      le-from_mul_ℤ p (vertical_separation q h x q z) (G *ℤ pos cube) sp
      (last _ _ _ _ _ _ _ _ _ less_climb end_line (sub-mul_ℤ ((H +ℤ pos 2 *ℤ W) *ℤ pos p) L (pos cube)) rounded line climbs ends)
    where
      sums : (a b c d : ℤ) → a ≤ℤ b → c ≤ℤ d → (a +ℤ c) ≤ℤ (b +ℤ d)
      sums a b c d k l = omega (arith, ints)

      last : (v s u t m l n g r : ℤ) → v ≡ s -ℤ u → t ≡ m → n ≡ m -ℤ l → g ≡ r → s ≤ℤ t → l ≤ℤ u → n ≤ℤ g → v ≤ℤ r
      last v s u t m l n g r a b c d e f k = omega (arith, ints)

  pub over_bottom : (H *ℤ pos q) ≤ℤ h → (W *ℤ pos q) ≤ℤ x → (z *ℤ pos (p * q)) ≤ℤ (L *ℤ pos ((q * q) * (q * q))) →
      (pos p *ℤ G) ≤ℤ (((H +ℤ pos 2 *ℤ W) *ℤ pos p) -ℤ L) → (G *ℤ pos (q * q * q)) ≤ℤ vertical_separation q h x q z
  over_bottom i j high round =
      let line = mul-le_ℤ p (((H *ℤ pos q) *ℤ pos (q * q)) +ℤ (((pos 2 *ℤ (W *ℤ pos q)) *ℤ pos q) *ℤ pos q)) ((h *ℤ pos (q * q)) +ℤ (((pos 2 *ℤ x) *ℤ pos q) *ℤ pos q))
      (sums _ _ _ _ (scaled_le (H *ℤ pos q) h (q * q) i) (scaled_le ((pos 2 *ℤ (W *ℤ pos q)) *ℤ pos q) ((pos 2 *ℤ x) *ℤ pos q) q (scaled_le (pos 2 *ℤ (W *ℤ pos q)) (pos 2 *ℤ x) q (mul-le_ℤ 2 (W *ℤ pos q) x j)))) in
      let climbs = le-from_mul_ℤ q (z *ℤ pos p) (L *ℤ pos cube) sq (rw (curve, flown) high) in
      let ends = scaled_le (pos p *ℤ G) (((H +ℤ pos 2 *ℤ W) *ℤ pos p) -ℤ L) cube round in
      le-from_mul_ℤ p (G *ℤ pos cube) (vertical_separation q h x q z) sp
      (last _ _ _ _ _ _ _ _ _ less_climb end_line (sub-mul_ℤ ((H +ℤ pos 2 *ℤ W) *ℤ pos p) L (pos cube)) rounded line climbs ends)
    where
      sums : (a b c d : ℤ) → a ≤ℤ b → c ≤ℤ d → (a +ℤ c) ≤ℤ (b +ℤ d)
      sums a b c d k l = omega (arith, ints)

      last : (v s u t m l n g r : ℤ) → v ≡ s -ℤ u → t ≡ m → n ≡ m -ℤ l → g ≡ r → t ≤ℤ s → u ≤ℤ l → g ≤ℤ n → r ≤ℤ v
      last v s u t m l n g r a b c d e f k = omega (arith, ints)

-- ---- rates

max_times : (x y z : ℤ) (n : ℕ) → (x *ℤ pos n) ≤ℤ z → (y *ℤ pos n) ≤ℤ z → (int_max x y *ℤ pos n) ≤ℤ z
max_times x y z n h k =
    ⊎_elim
    (λ l. let e : int_max x y ≡ y = omega (arith, ints, clamps) in rw e k)
    (λ l. let e : int_max x y ≡ x = omega (arith, ints, clamps) in rw e h)
    (cases_lt_ℤ x y)

min_times : (x y z : ℤ) (n : ℕ) → z ≤ℤ (x *ℤ pos n) → z ≤ℤ (y *ℤ pos n) → z ≤ℤ (int_min x y *ℤ pos n)
min_times x y z n h k =
    ⊎_elim
    (λ l. let e : int_min x y ≡ x = omega (arith, ints, clamps) in rw e h)
    (λ l. let e : int_min x y ≡ y = omega (arith, ints, clamps) in rw e k)
    (cases_lt_ℤ x y)

-- an end of an interval less or more than a limit, over q^2
less_limit : (s v w : ℤ) (limit q t : ℕ) → t ≡ q → (s *ℤ pos (q * q)) ≤ℤ v → (v -ℤ pos ((limit * q) * t)) ≤ℤ w → ((s -ℤ pos limit) *ℤ pos (q * q)) ≤ℤ w
less_limit s v w limit q t e h k =
    let turn : (limit * q) * t ≡ limit * (q * q) = rw e (omega arith) in
    rw (sub-mul_ℤ s (pos limit) (pos (q * q))) (line _ _ _ _ h (rw turn at k))
  where
    line : (s v w : ℤ) (n : ℕ) → s ≤ℤ v → (v -ℤ pos n) ≤ℤ w → (s -ℤ pos n) ≤ℤ w
    line s v w n a b = omega (arith, ints)

more_limit : (s v w : ℤ) (limit q t : ℕ) → t ≡ q → v ≤ℤ (s *ℤ pos (q * q)) → w ≤ℤ (v +ℤ pos ((limit * q) * t)) → w ≤ℤ ((s +ℤ pos limit) *ℤ pos (q * q))
more_limit s v w limit q t e h k =
    let turn : (limit * q) * t ≡ limit * (q * q) = rw e (omega arith) in
    rw (add-mul_ℤ s (pos limit) (pos (q * q))) (line _ _ _ _ h (rw turn at k))
  where
    line : (s v w : ℤ) (n : ℕ) → v ≤ℤ s → w ≤ℤ (v +ℤ pos n) → w ≤ℤ (s +ℤ pos n)
    line s v w n a b = omega (arith, ints)

module _ (a : Demand) (v : Interval) (q : ℕ) (own : ℤ) (first : List Segment) (meets : Meets (scaled q a) (own *ℤ pos q) first) (one : lasting first ≡ q) where
  pub least_rate-holds : (v.least *ℤ pos q) ≤ℤ own → (least_rate a v *ℤ pos (q * q)) ≤ℤ rate_left (own *ℤ pos q) first
  least_rate-holds h =
      ⊎_elim
      (λ l. rw (test_lt v.least a.lo l) (left_low (scaled q a) (v.least *ℤ pos (q * q)) (own *ℤ pos q) first (scaled_le v.least a.lo (q * q) (le_of_lt_ℤ v.least a.lo l)) start meets))
      (λ l. rw (test_ge v.least a.lo l)
      (max_times a.lo (v.least -ℤ pos a.limit) (rate_left (own *ℤ pos q) first) (q * q)
      (left_low (scaled q a) (a.lo *ℤ pos (q * q)) (own *ℤ pos q) first (same (a.lo *ℤ pos (q * q))) (trans _ _ _ (scaled_le a.lo v.least (q * q) l) start) meets)
      (less_limit v.least (own *ℤ pos q) (rate_left (own *ℤ pos q) first) a.limit q (lasting first) one start (left_near (scaled q a) (own *ℤ pos q) first meets).low)))
      (cases_lt_ℤ v.least a.lo)
    where
      start : (v.least *ℤ pos (q * q)) ≤ℤ (own *ℤ pos q)
      start = least_start q v.least own h

      same : (z : ℤ) → z ≤ℤ z
      same z = omega (arith, ints)

      trans : (x y z : ℤ) → x ≤ℤ y → y ≤ℤ z → x ≤ℤ z
      trans x y z i j = omega (arith, ints)

  pub greatest_rate-holds : own ≤ℤ (v.greatest *ℤ pos q) → rate_left (own *ℤ pos q) first ≤ℤ (greatest_rate a v *ℤ pos (q * q))
  greatest_rate-holds h =
      ⊎_elim
      (λ l. rw (test_lt a.hi v.greatest l) (left_high (scaled q a) (v.greatest *ℤ pos (q * q)) (own *ℤ pos q) first (scaled_le a.hi v.greatest (q * q) (le_of_lt_ℤ a.hi v.greatest l)) start meets))
      (λ l. rw (test_ge a.hi v.greatest l)
      (min_times a.hi (v.greatest +ℤ pos a.limit) (rate_left (own *ℤ pos q) first) (q * q)
      (left_high (scaled q a) (a.hi *ℤ pos (q * q)) (own *ℤ pos q) first (same (a.hi *ℤ pos (q * q))) (trans _ _ _ start (scaled_le v.greatest a.hi (q * q) l)) meets)
      (more_limit v.greatest (own *ℤ pos q) (rate_left (own *ℤ pos q) first) a.limit q (lasting first) one start (left_near (scaled q a) (own *ℤ pos q) first meets).high)))
      (cases_lt_ℤ a.hi v.greatest)
    where
      start : (own *ℤ pos q) ≤ℤ (v.greatest *ℤ pos (q * q))
      start = greatest_start q v.greatest own h

      same : (z : ℤ) → z ≤ℤ z
      same z = omega (arith, ints)

      trans : (x y z : ℤ) → x ≤ℤ y → y ≤ℤ z → x ≤ℤ z
      trans x y z i j = omega (arith, ints)

  -- ---- altitudes

  module _ (fine : CanBeMet a) (some : 0 < q) (i w : Interval) (h x : ℤ) where
    pub least_altitude-holds : own ≤ℤ (v.greatest *ℤ pos q) → (i.least *ℤ pos q) ≤ℤ h → (w.least *ℤ pos q) ≤ℤ x →
        (least_altitude a i v w *ℤ pos (q * q * q)) ≤ℤ vertical_separation q h x q (climb (own *ℤ pos q) first)
    least_altitude-holds o high fast =
        let pull = high_pull a v.greatest in
        let few = high_pull-some a v.greatest fine in
        over_bottom pull q few some h x (climb (own *ℤ pos q) first) i.least w.least (highest a v.greatest 1) (least_altitude a i v w) high fast
        (by (climb (own *ℤ pos q) first) _ _ _ _ (high_pull-over a v.greatest q some) (ap (λ t. highest (scaled q a) (v.greatest *ℤ pos (q * q)) t) one ∙ highest-over a v.greatest q some)
        (high_bound (scaled q a) (scaled_can_be_met q a some fine) (v.greatest *ℤ pos (q * q)) (own *ℤ pos q) first (greatest_start q v.greatest own o) meets))
        (down_is_floor (((i.least +ℤ pos 2 *ℤ w.least) *ℤ pos pull) -ℤ highest a v.greatest 1) pull few).0
      where
        by : (z : ℤ) (b c : ℕ) (k l : ℤ) → b ≡ c → k ≡ l → (z *ℤ pos b) ≤ℤ k → (z *ℤ pos c) ≤ℤ l
        by z b c k l e f g = rw (← e, ← f) g

    pub greatest_altitude-holds : (v.least *ℤ pos q) ≤ℤ own → h ≤ℤ (i.greatest *ℤ pos q) → x ≤ℤ (w.greatest *ℤ pos q) →
        vertical_separation q h x q (climb (own *ℤ pos q) first) ≤ℤ (greatest_altitude a i v w *ℤ pos (q * q * q))
    greatest_altitude-holds o high fast =
        let pull = low_pull a v.least in
        let few = low_pull-some a v.least fine in
        under_top pull q few some h x (climb (own *ℤ pos q) first) i.greatest w.greatest (lowest a v.least 1) (greatest_altitude a i v w) high fast
        (by (climb (own *ℤ pos q) first) _ _ _ _ (low_pull-over a v.least q some) (ap (λ t. lowest (scaled q a) (v.least *ℤ pos (q * q)) t) one ∙ lowest-over a v.least q some)
        (low_bound (scaled q a) (scaled_can_be_met q a some fine) (v.least *ℤ pos (q * q)) (own *ℤ pos q) first (least_start q v.least own o) meets))
        (up_is_ceiling (((i.greatest +ℤ pos 2 *ℤ w.greatest) *ℤ pos pull) -ℤ lowest a v.least 1) pull few).0
      where
        by : (z : ℤ) (b c : ℕ) (k l : ℤ) → b ≡ c → k ≡ l → k ≤ℤ (z *ℤ pos b) → l ≤ℤ (z *ℤ pos c)
        by z b c k l e f g = rw (← e, ← f) g
