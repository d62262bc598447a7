-- A flight of the area in contact, with its response, is a state of the area and a response that meets the advisory and ends in contact.
use Rattle.std.proofs.Common.{◌≡◌, ℕ, ◌+◌, ◌-◌, ◌*◌, ◌<◌, ◌≤◌, ⊎_elim, refl, ap, ap₂, ◌∙◌, sym, arith, List, [], ◌∷◌, ◌++◌, ℤ, pos, neg_ℤ, ◌+ℤ◌, ◌-ℤ◌, ◌*ℤ◌, ◌≤ℤ◌, unsigned_abs, int_le, cond, true, false, min, mul-pos, mul-le-mul_right}
use Rattle.std.proofs.lemmas.Int.{ints}
use Rattle.acas_frac.proofs.SignedProducts.{le-from_mul_ℤ, mul-neg_ℤ, neg-mul_ℤ}
use Rattle.acas_frac.proofs.IntRing.{at, num, ◌⊕◌, ◌⊖◌, ◌⊗◌, ring, zero-sub_ℤ}
use Rattle.acas_frac.proofs.Orders.{unsigned_abs-le, by_below, by_above, cases_lt_ℤ}
use Rattle.acas_flight_lemmas.proofs.Rising.{scaled_le}
use Rattle.acas_flight_lemmas.proofs.Scales.{cancel_left}
use Rattle.acas_flight_lemmas.proofs.Held.{held-scaled, min_scaled, sub_scaled}
use Rattle.acas_areas.specs.Value.{IsWithinHalf}
use Rattle.acas_flight.specs.Response.{Segment, Demand, scaled, climb, lasting, Meets, FollowsThroughout}
use Rattle.acas_flight.specs.Curves.{approach, held}
use Rattle.acas_flight.specs.Clear.{Area, EndsInVerticalContact}
use Rattle.acas_flight.specs.Window.{Times, IsDuring}
use Rattle.acas_flight.specs.Contact.{vertical_separation}
use Rattle.acas_areas.specs.Flights.{Flight, value}
use Rattle.acas_areas.specs.Responses.{IsToward, up, down, IsResponse, IsFlightFrom, scale, fine, acceleration}
use Rattle.acas_pass_lemmas.proofs.Flown.{approach-lasting, approach-climb, approach-follows, response-meets, response-lasting, response-climb}

-- the way from one rate to another over q*b, whose bend is whole
pub toward_aim : (v k : ℤ) (b q m : ℕ) → q * b ≡ m → IsToward (v *ℤ pos (m * m)) (k *ℤ pos (m * m)) (b * m) (unsigned_abs (k -ℤ v) * q) (cond (int_le v k) (pos (b * m)) (neg_ℤ (pos (b * m))))
toward_aim v k b q m e = ⊎_elim
    (λ h. let t : false ≡ int_le v k = omega (arith, ints) in let f = falls (omega (arith, ints)) in rw (← t) (down f))
    (λ h. let t : true ≡ int_le v k = omega (arith, ints) in let f = rises h in rw (← t) (up f))
    (cases_lt_ℤ k v)
  where
    product : (x : ℕ) → (b * m) * (x * q) ≡ x * (m * m)
    product x = rw (sym e) (omega arith)

    over : (x : ℕ) → v ≡ k +ℤ pos x → unsigned_abs (k -ℤ v) ≡ x → v *ℤ pos (m * m) ≡ (k *ℤ pos (m * m)) +ℤ pos ((b * m) * (unsigned_abs (k -ℤ v) * q))
    over x f g = rw (g, product x, f) (ring (k ∷ pos x ∷ pos m ∷ []) ((at 0 ⊕ at 1) ⊗ (at 2 ⊗ at 2)) ((at 0 ⊗ (at 2 ⊗ at 2)) ⊕ (at 1 ⊗ (at 2 ⊗ at 2))) refl)

    under : (x : ℕ) → v ≡ k -ℤ pos x → unsigned_abs (k -ℤ v) ≡ x → v *ℤ pos (m * m) ≡ (k *ℤ pos (m * m)) -ℤ pos ((b * m) * (unsigned_abs (k -ℤ v) * q))
    under x f g = rw (g, product x, f) (ring (k ∷ pos x ∷ pos m ∷ []) ((at 0 ⊖ at 1) ⊗ (at 2 ⊗ at 2)) ((at 0 ⊗ (at 2 ⊗ at 2)) ⊖ (at 1 ⊗ (at 2 ⊗ at 2))) refl)

    way_over : (x : ℕ) → v ≡ k +ℤ pos x → unsigned_abs (k -ℤ v) ≡ x
    way_over x f = omega (arith, ints)

    way_under : (x : ℕ) → v ≡ k -ℤ pos x → unsigned_abs (k -ℤ v) ≡ x
    way_under x f = omega (arith, ints)

    falls : k ≤ℤ v → v *ℤ pos (m * m) ≡ (k *ℤ pos (m * m)) +ℤ pos ((b * m) * (unsigned_abs (k -ℤ v) * q))
    falls h = by_above k v h (λ x f. over x f (way_over x f))

    rises : v ≤ℤ k → v *ℤ pos (m * m) ≡ (k *ℤ pos (m * m)) -ℤ pos ((b * m) * (unsigned_abs (k -ℤ v) * q))
    rises h = by_below k v h (λ x f. under x f (way_under x f))

-- the separation, times the pull, is the value over the finer denominator, turned upside down
separation-value : (q b : ℕ) (h x n z y : ℤ) (t : ℕ) → z *ℤ pos b ≡ n *ℤ pos ((q * b) * (q * b) * (q * b)) →
    y ≡ n -ℤ (pos b *ℤ ((h *ℤ pos (q * q * q)) +ℤ ((pos 2 *ℤ x) *ℤ pos t))) →
    pos b *ℤ vertical_separation (q * (q * b)) (h *ℤ pos (q * (q * b))) (x *ℤ pos b) (t * (q * b)) z ≡ neg_ℤ (y *ℤ pos ((q * b) * (q * b) * (q * b)))
separation-value q b h x n z y t e f =
    spread q b h x z t ∙ ap (λ i. (pos b *ℤ (((h *ℤ pos (q * (q * b))) *ℤ pos ((q * (q * b)) * (q * (q * b)))) +ℤ (((pos 2 *ℤ (x *ℤ pos b)) *ℤ pos (t * (q * b))) *ℤ pos (q * (q * b))))) -ℤ i) e
    ∙ rw f (gather q b h x n t)
  where
    spread : (q b : ℕ) (h x z : ℤ) (t : ℕ) → pos b *ℤ vertical_separation (q * (q * b)) (h *ℤ pos (q * (q * b))) (x *ℤ pos b) (t * (q * b)) z
        ≡ (pos b *ℤ (((h *ℤ pos (q * (q * b))) *ℤ pos ((q * (q * b)) * (q * (q * b)))) +ℤ (((pos 2 *ℤ (x *ℤ pos b)) *ℤ pos (t * (q * b))) *ℤ pos (q * (q * b))))) -ℤ (z *ℤ pos b)
    spread q b h x z t = ring (pos q ∷ pos b ∷ h ∷ x ∷ z ∷ pos t ∷ [])
        (at 1 ⊗ ((((at 2 ⊗ (at 0 ⊗ (at 0 ⊗ at 1))) ⊗ ((at 0 ⊗ (at 0 ⊗ at 1)) ⊗ (at 0 ⊗ (at 0 ⊗ at 1)))) ⊕ (((num (pos 2) ⊗ (at 3 ⊗ at 1)) ⊗ (at 5 ⊗ (at 0 ⊗ at 1))) ⊗ (at 0 ⊗ (at 0 ⊗ at 1)))) ⊖ at 4))
        ((at 1 ⊗ (((at 2 ⊗ (at 0 ⊗ (at 0 ⊗ at 1))) ⊗ ((at 0 ⊗ (at 0 ⊗ at 1)) ⊗ (at 0 ⊗ (at 0 ⊗ at 1)))) ⊕ (((num (pos 2) ⊗ (at 3 ⊗ at 1)) ⊗ (at 5 ⊗ (at 0 ⊗ at 1))) ⊗ (at 0 ⊗ (at 0 ⊗ at 1))))) ⊖ (at 4 ⊗ at 1))
        refl

    gather : (q b : ℕ) (h x n : ℤ) (t : ℕ) →
        (pos b *ℤ (((h *ℤ pos (q * (q * b))) *ℤ pos ((q * (q * b)) * (q * (q * b)))) +ℤ (((pos 2 *ℤ (x *ℤ pos b)) *ℤ pos (t * (q * b))) *ℤ pos (q * (q * b))))) -ℤ (n *ℤ pos ((q * b) * (q * b) * (q * b)))
        ≡ neg_ℤ ((n -ℤ (pos b *ℤ ((h *ℤ pos (q * q * q)) +ℤ ((pos 2 *ℤ x) *ℤ pos t)))) *ℤ pos ((q * b) * (q * b) * (q * b)))
    gather q b h x n t =
        ring (pos q ∷ pos b ∷ h ∷ x ∷ n ∷ pos t ∷ [])
        ((at 1 ⊗ (((at 2 ⊗ (at 0 ⊗ (at 0 ⊗ at 1))) ⊗ ((at 0 ⊗ (at 0 ⊗ at 1)) ⊗ (at 0 ⊗ (at 0 ⊗ at 1)))) ⊕ (((num (pos 2) ⊗ (at 3 ⊗ at 1)) ⊗ (at 5 ⊗ (at 0 ⊗ at 1))) ⊗ (at 0 ⊗ (at 0 ⊗ at 1))))) ⊖ (at 4 ⊗ (((at 0 ⊗ at 1) ⊗ (at 0 ⊗ at 1)) ⊗ (at 0 ⊗ at 1))))
        (num (pos 0) ⊖ ((at 4 ⊖ (at 1 ⊗ ((at 2 ⊗ ((at 0 ⊗ at 0) ⊗ at 0)) ⊕ ((num (pos 2) ⊗ at 3) ⊗ at 5)))) ⊗ (((at 0 ⊗ at 1) ⊗ (at 0 ⊗ at 1)) ⊗ (at 0 ⊗ at 1))))
        refl
        ∙ zero-sub_ℤ ((n -ℤ (pos b *ℤ ((h *ℤ pos (q * q * q)) +ℤ ((pos 2 *ℤ x) *ℤ pos t)))) *ℤ pos ((q * b) * (q * b) * (q * b)))

-- the band over the finer denominator
band : (q b half : ℕ) → b * (half * ((q * (q * b)) * (q * (q * b)) * (q * (q * b)))) ≡ (half * (q * q * q * b)) * ((q * b) * (q * b) * (q * b))
band q b half = omega arith

pub square_of : (v : ℤ) (q b : ℕ) → (v *ℤ pos b) *ℤ pos (q * (q * b)) ≡ v *ℤ pos ((q * b) * (q * b))
square_of v q b = ring (v ∷ pos q ∷ pos b ∷ []) ((at 0 ⊗ at 2) ⊗ (at 1 ⊗ (at 1 ⊗ at 2))) (at 0 ⊗ ((at 1 ⊗ at 2) ⊗ (at 1 ⊗ at 2))) refl

pub scaled_rate : (v : ℤ) (q b : ℕ) → v *ℤ pos ((q * (q * b)) * (q * (q * b))) ≡ (v *ℤ pos (q * q)) *ℤ pos ((q * b) * (q * b))
scaled_rate v q b = ring (v ∷ pos q ∷ pos b ∷ []) (at 0 ⊗ ((at 1 ⊗ (at 1 ⊗ at 2)) ⊗ (at 1 ⊗ (at 1 ⊗ at 2)))) ((at 0 ⊗ (at 1 ⊗ at 1)) ⊗ ((at 1 ⊗ at 2) ⊗ (at 1 ⊗ at 2))) refl

pub scaled_span : (v : ℤ) (q b : ℕ) → v *ℤ pos (q * (q * b)) ≡ (v *ℤ pos (q * q)) *ℤ pos b
scaled_span v q b = ring (v ∷ pos q ∷ pos b ∷ []) (at 0 ⊗ (at 1 ⊗ (at 1 ⊗ at 2))) ((at 0 ⊗ (at 1 ⊗ at 1)) ⊗ at 2) refl

pub lasts : (q : ℕ) (c : Flight) (h r : List Segment) → IsResponse q c h r → lasting (h ++ r) ≡ c.time * scale q c
lasts q c h r is =
    response-lasting (min c.time c.hold * scale q c) ((c.time - c.hold) * scale q c) h r is.held (approach-lasting _ _ _ r is.approached)
    ∙ let e : c.time ≡ min c.time c.hold + (c.time - c.hold) = omega arith in sums (min c.time c.hold) (c.time - c.hold) c.time (scale q c) e
  where
    sums : (i j t m : ℕ) → t ≡ i + j → i * m + j * m ≡ t * m
    sums i j t m e = rw e (omega arith)

-- the climb of a flight's response, times the pull, over the finer denominator
pub climb-response : (q : ℕ) (c : Flight) (hold rest : List Segment) → 0 < q → 0 < c.pull → IsResponse q c hold rest →
    climb ((c.own *ℤ pos c.pull) *ℤ pos (fine q c)) (hold ++ rest) *ℤ pos c.pull ≡ held c.own c.aim c.pull c.hold c.time *ℤ pos (scale q c * scale q c * scale q c)
climb-response q c h r p s is = cancel_left (scale q c) _ _ (mul-pos p s) (left _ (scale q c) c.pull ∙ whole ∙ right (held c.own c.aim c.pull c.hold c.time) (scale q c))
  where
    left : (z : ℤ) (m b : ℕ) → pos m *ℤ (z *ℤ pos b) ≡ z *ℤ pos (b * m)
    left z m b = ring (z ∷ pos m ∷ pos b ∷ []) (at 1 ⊗ (at 0 ⊗ at 2)) (at 0 ⊗ (at 2 ⊗ at 1)) refl

    right : (n : ℤ) (m : ℕ) → n *ℤ pos ((m * m) * (m * m)) ≡ pos m *ℤ (n *ℤ pos (m * m * m))
    right n m = ring (n ∷ pos m ∷ []) (at 0 ⊗ ((at 1 ⊗ at 1) ⊗ (at 1 ⊗ at 1))) (at 1 ⊗ (at 0 ⊗ ((at 1 ⊗ at 1) ⊗ at 1))) refl

    whole : climb ((c.own *ℤ pos c.pull) *ℤ pos (fine q c)) (h ++ r) *ℤ pos (c.pull * scale q c) ≡ held c.own c.aim c.pull c.hold c.time *ℤ pos ((scale q c * scale q c) * (scale q c * scale q c))
    whole =
        rw (square_of c.own q c.pull) (
        response-climb (c.own *ℤ pos (scale q c * scale q c)) (c.pull * scale q c) (min c.time c.hold * scale q c) h r _ is.held
        (approach-climb (c.own *ℤ pos (scale q c * scale q c)) (c.aim *ℤ pos (scale q c * scale q c)) (c.pull * scale q c) (unsigned_abs (c.aim -ℤ c.own) * q) (acceleration q c) ((c.time - c.hold) * scale q c) r
        (toward_aim c.own c.aim c.pull q (scale q c) refl) is.approached)
        ∙ ap₂ (λ (i j : ℕ). (((pos 2 *ℤ (c.own *ℤ pos (scale q c * scale q c))) *ℤ pos i) *ℤ pos (c.pull * scale q c)) +ℤ approach (c.own *ℤ pos (scale q c * scale q c)) (c.aim *ℤ pos (scale q c * scale q c)) (c.pull * scale q c) j)
        (sym (min_scaled c.time c.hold (scale q c))) (sym (sub_scaled c.time c.hold (scale q c)))
        ∙ held-scaled c.own c.aim c.pull c.hold c.time (scale q c) (scale q c))

module _ (half : ℕ) (a : Demand) (area : Area) (w : Times) (q : ℕ) (c : Flight) (p : 0 < q) (s : 0 < c.pull) (of : IsFlightFrom a area w q c) (h r : List Segment) (is : IsResponse q c h r) where
  follows : FollowsThroughout (scaled (fine q c) a) (c.own *ℤ pos (scale q c * scale q c)) r
  follows =
      approach-follows (scaled (fine q c) a) (c.aim *ℤ pos (scale q c * scale q c)) (c.pull * scale q c)
      (rw (scaled_rate a.lo q c.pull) (scaled_le _ _ (scale q c * scale q c) of.aim_least))
      (rw (scaled_rate a.hi q c.pull) (scaled_le _ _ (scale q c * scale q c) of.aim_greatest))
      (let m = mul-le-mul_right (scale q c) of.pull_least in omega arith)
      (let m = mul-le-mul_right (scale q c) of.pull_most in omega arith)
      (c.own *ℤ pos (scale q c * scale q c)) (unsigned_abs (c.aim -ℤ c.own) * q) (acceleration q c) ((c.time - c.hold) * scale q c) r
      (toward_aim c.own c.aim c.pull q (scale q c) refl) is.approached

  pub meets : Meets (scaled (fine q c) a) ((c.own *ℤ pos c.pull) *ℤ pos (fine q c)) (h ++ r)
  meets = rw (square_of c.own q c.pull) (response-meets (scaled (fine q c) a) (c.own *ℤ pos (scale q c * scale q c)) (min c.time c.hold * scale q c) h r
      (let m = mul-le-mul_right (scale q c) of.hold in let n : min c.time c.hold * scale q c ≤ c.hold * scale q c = mul-le-mul_right (scale q c) (omega arith) in omega arith)
      is.held follows)

  apart : pos c.pull *ℤ vertical_separation (fine q c) (c.altitude *ℤ pos (fine q c)) (c.intruder *ℤ pos c.pull) (lasting (h ++ r)) (climb ((c.own *ℤ pos c.pull) *ℤ pos (fine q c)) (h ++ r))
      ≡ neg_ℤ ((value q c).num *ℤ pos (scale q c * scale q c * scale q c))
  apart = rw (lasts q c h r is) (separation-value q c.pull c.altitude c.intruder (held c.own c.aim c.pull c.hold c.time) (climb ((c.own *ℤ pos c.pull) *ℤ pos (fine q c)) (h ++ r)) (value q c).num c.time (climb-response q c h r p s is) refl)

  in_time : IsDuring (fine q c) w (lasting (h ++ r))
  in_time = rw (lasts q c h r is) (
    rw (first w.from.num q c.pull, second c.time w.from.den q c.pull) (scaled_le _ _ (q * c.pull) of.time.0),
    rw (first w.to.num q c.pull, second c.time w.to.den q c.pull) (scaled_le _ _ (q * c.pull) of.time.1),
  )
    where
      first : (n : ℤ) (q b : ℕ) → n *ℤ pos (q * (q * b)) ≡ (n *ℤ pos q) *ℤ pos (q * b)
      first n q b = ring (n ∷ pos q ∷ pos b ∷ []) (at 0 ⊗ (at 1 ⊗ (at 1 ⊗ at 2))) ((at 0 ⊗ at 1) ⊗ (at 1 ⊗ at 2)) refl

      second : (t d q b : ℕ) → pos ((t * (q * b)) * d) ≡ pos (t * d) *ℤ pos (q * b)
      second t d q b = ring (pos t ∷ pos d ∷ pos q ∷ pos b ∷ []) ((at 0 ⊗ (at 2 ⊗ at 3)) ⊗ at 1) ((at 0 ⊗ at 1) ⊗ (at 2 ⊗ at 3)) refl

  pub touches : IsWithinHalf half (value q c) → EndsInVerticalContact half a area w (fine q c) (c.altitude *ℤ pos (fine q c)) (c.own *ℤ pos c.pull) (c.intruder *ℤ pos c.pull) (h ++ r)
  touches within = record {
    some = mul-pos p (mul-pos p s);
    altitude = (scaled_le _ _ (fine q c) of.not_under, scaled_le _ _ (fine q c) of.not_over);
    own = (rw (scaled_span area.own.least q c.pull) (scaled_le _ _ c.pull of.own.0), rw (scaled_span area.own.greatest q c.pull) (scaled_le _ _ c.pull of.own.1));
    intruder = (rw (scaled_span area.intruder.least q c.pull) (scaled_le _ _ c.pull of.intruder.0), rw (scaled_span area.intruder.greatest q c.pull) (scaled_le _ _ c.pull of.intruder.1));
    time = in_time;
    meets = meets;
    contact = unsigned_abs-le _ _ (le-from_mul_ℤ c.pull _ _ s (below _ _ _ _ _ apart (mul-neg_ℤ (pos c.pull) (pos (half * (fine q c * fine q c * fine q c)))) (band q c.pull half) (scaled_le _ _ (scale q c * scale q c * scale q c) within.not_above)))
        (le-from_mul_ℤ c.pull _ _ s (above _ _ _ _ _ apart (band q c.pull half) (neg-mul_ℤ (pos (half * (q * q * q * c.pull))) (pos (scale q c * scale q c * scale q c))) (scaled_le _ _ (scale q c * scale q c * scale q c) within.not_below)));
  }
    where
      below : (x n : ℤ) (m : ℤ) (i j : ℕ) → x ≡ neg_ℤ n → m ≡ neg_ℤ (pos i) → i ≡ j → n ≤ℤ pos j → m ≤ℤ x
      below x n m i j e f g h = omega (arith, ints)

      above : (x n : ℤ) (m : ℤ) (i j : ℕ) → x ≡ neg_ℤ n → i ≡ j → m ≡ neg_ℤ (pos j) → m ≤ℤ n → x ≤ℤ pos i
      above x n m i j e g f h = omega (arith, ints)
