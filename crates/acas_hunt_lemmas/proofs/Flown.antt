-- A course of the area, with the response and the intruder's flight, is a meeting where its value is within the half height.
use Rattle.std.proofs.Common.{◌≡◌, ℕ, ◌*◌, ◌<◌, ◌≤◌, refl, sym, ap, ap₂, ◌∙◌, arith, List, [], ◌∷◌, ◌++◌, ℤ, pos, neg_ℤ, ◌+ℤ◌, ◌-ℤ◌, ◌*ℤ◌, ◌≤ℤ◌, unsigned_abs, mul-pos}
use Rattle.std.proofs.lemmas.Int.{ints}
use Rattle.acas_frac.proofs.SignedProducts.{mul-le_ℤ, le-from_mul_ℤ, neg-mul_ℤ, mul-neg_ℤ}
use Rattle.acas_frac.proofs.IntRing.{at, num, ◌⊕◌, ◌⊖◌, ◌⊗◌, ring, zero-sub_ℤ}
use Rattle.acas_frac.proofs.Orders.{unsigned_abs-le, unsigned_abs-low, unsigned_abs-high}
use Rattle.acas_flight.proofs.Holding.{held-none}
use Rattle.acas_flight_lemmas.proofs.Rising.{scaled_le}
use Rattle.acas_flight_lemmas.proofs.Finer.{climb_finer, lasting_finer, finer_meet}
use Rattle.acas_flight_lemmas.proofs.Endangered.{IsDuring-finer, scaled-finer, start-finer}
use Rattle.acas_flight.specs.Response.{Segment, Demand, scaled, climb, lasting, Meets}
use Rattle.acas_flight.specs.Parts.{finer}
use Rattle.acas_flight.specs.Curves.{approach, held}
use Rattle.acas_flight.specs.State.{Interval, IsInside}
use Rattle.acas_flight.specs.Window.{Times, IsDuring}
use Rattle.acas_flight.specs.Clear.{Area}
use Rattle.acas_areas.specs.Value.{IsWithinHalf}
use Rattle.acas_areas.specs.Flights.{Flight}
use Rattle.acas_areas.specs.Responses.{IsFlightFrom, scale, fine}
use Rattle.acas_pass_lemmas.proofs.Neighbours.{size_over}
use Rattle.acas_pass_lemmas.proofs.Touching as touching
use Rattle.acas_pass_lemmas.proofs.Touching.{climb-response}
use Rattle.acas_rulings.specs.Intruder.{Manoeuvre, over, IsFlown, pilot_of}
use Rattle.acas_rulings.specs.Meeting.{IsClose, MeetsDuring}
use Rattle.acas_manoeuvre_lemmas.proofs.Flown.{meets-flown}
use Rattle.acas_manoeuvre_lemmas.proofs.Windows.{flown-finer, over-finer}
use Rattle.acas_rulings.specs.Hunt.{Course, value, of_intruder, IsFlownBy}

-- ---- a course of an area: its own flight is, and the intruder's goal is a rate that it may have

pub record IsCourseFrom (demand : Demand) (may : Manoeuvre) (area : Area) (w : Times) (q : ℕ) (c : Course) : Type 0 where
  pub own : IsFlightFrom demand area w q c.own
  pub least : (neg_ℤ (pos may.rate) *ℤ pos (q * q)) ≤ℤ c.goal
  pub most : c.goal ≤ℤ (pos may.rate *ℤ pos (q * q))

-- the pilot who flies as the intruder, in numbers over q
pilot-over : (q : ℕ) (may : Manoeuvre) → scaled q (pilot_of may) ≡ pilot_of (over q may)
pilot-over q may = same (neg-mul_ℤ (pos may.rate) (pos (q * q))) (none q)
  where
    none : (q : ℕ) → 0 * q ≡ 0
    none q = omega arith

    demand : ℤ → ℕ → Demand
    demand lo delay = record { lo = lo; hi = pos (may.rate * (q * q)); pull = may.accel * q; limit = may.accel * q; delay = delay }

    same : {lo lo' : ℤ} {d d' : ℕ} → lo ≡ lo' → d ≡ d' → demand lo d ≡ demand lo' d'
    same e f = rw (e, f) refl

module _ (half : ℕ) (demand : Demand) (may : Manoeuvre) (area : Area) (w : Times) (q : ℕ) (c : Course) (p : 0 < q) (s : 0 < c.own.pull) (sa : 0 < may.accel)
    (rates : (unsigned_abs area.intruder.least ≤ may.rate) × (unsigned_abs area.intruder.greatest ≤ may.rate))
    (of : IsCourseFrom demand may area w q c) (hold rest turn : List Segment) (is : IsFlownBy q (may.accel * q) c hold rest turn) where
  abbrev a : ℕ
  a = may.accel * q

  abbrev b : ℕ
  b = c.own.pull

  -- the denominator of the meeting
  abbrev whole : ℕ
  whole = fine q c.own * a

  some_a : 0 < a
  some_a = mul-pos sa p

  -- ---- the intruder

  abbrev other : Flight
  other = of_intruder a c

  abbrev other_area : Area
  other_area = record { altitude = record { least = pos 0; greatest = pos 0 }; own = area.intruder; intruder = record { least = pos 0; greatest = pos 0 } }

  other_from : IsFlightFrom (pilot_of may) other_area w q other
  other_from = record {
    time = of.own.time;
    not_under = omega (arith, ints);
    not_over = omega (arith, ints);
    own = of.own.intruder;
    intruder = (omega (arith, ints), omega (arith, ints));
    aim_least = of.least;
    aim_greatest = of.most;
    pull_least = omega arith;
    pull_most = omega arith;
    hold = omega arith;
  }

  intruder_size : unsigned_abs c.own.intruder ≤ may.rate * (q * q)
  intruder_size =
      let l = scaled_le (neg_ℤ (pos may.rate)) area.intruder.least (q * q) (unsigned_abs-low area.intruder.least may.rate rates.0) in
      let m = scaled_le area.intruder.greatest (pos may.rate) (q * q) (unsigned_abs-high area.intruder.greatest may.rate rates.1) in
      let n = of.own.intruder.0 in
      let o = of.own.intruder.1 in
      unsigned_abs-le c.own.intruder (may.rate * (q * q)) (line _ _ _ (sym (neg-mul_ℤ (pos may.rate) (pos (q * q)))) l n) (omega (arith, ints, m, o))
    where
      line : (x y z : ℤ) {n : ℤ} → n ≡ x → x ≤ℤ y → y ≤ℤ z → n ≤ℤ z
      line x y z e h k = omega (arith, ints, e, h, k)

  start_size : unsigned_abs ((c.own.intruder *ℤ pos a) *ℤ pos (fine q other)) ≤ may.rate * (fine q other * fine q other)
  start_size =
      let one = size_over c.own.intruder (may.rate * (q * q)) a intruder_size in
      let two = size_over (c.own.intruder *ℤ pos a) (may.rate * (q * q) * a) (fine q other) one in
      let e : may.rate * (q * q) * a * (q * (q * a)) ≡ may.rate * ((q * (q * a)) * (q * (q * a))) = omega arith in
      rw e at two

  flown : IsFlown (over (fine q other) may) ((c.own.intruder *ℤ pos a) *ℤ pos (fine q other)) turn
  flown = meets-flown (over (fine q other) may) ((c.own.intruder *ℤ pos a) *ℤ pos (fine q other)) turn start_size
      (rw (pilot-over (fine q other) may) at (touching.meets 0 (pilot_of may) other_area w q other p some_a other_from [] turn is.against))

  -- the same denominator, from the intruder's side
  same_whole : fine q other * b ≡ whole
  same_whole = turn_over q a b
    where
      turn_over : (q a b : ℕ) → (q * (q * a)) * b ≡ (q * (q * b)) * a
      turn_over q a b = omega arith

  -- ---- the meeting

  abbrev own_rate : ℤ
  own_rate = (c.own.own *ℤ pos b) *ℤ pos a

  abbrev other_rate : ℤ
  other_rate = (c.own.intruder *ℤ pos b) *ℤ pos a

  swapped : (c.own.intruder *ℤ pos a) *ℤ pos b ≡ other_rate
  swapped = ring (c.own.intruder ∷ pos a ∷ pos b ∷ []) ((at 0 ⊗ at 1) ⊗ at 2) ((at 0 ⊗ at 2) ⊗ at 1) refl

  inside : (i : Interval) (v : ℤ) → IsInside (q * q) i v → IsInside whole i ((v *ℤ pos b) *ℤ pos a)
  inside i v h = (
    rw (out i.least q b a) (scaled_le _ _ a (scaled_le _ _ b h.0)),
    rw (out i.greatest q b a) (scaled_le _ _ a (scaled_le _ _ b h.1)),
  )
    where
      out : (v : ℤ) (q b a : ℕ) → v *ℤ pos ((q * (q * b)) * a) ≡ ((v *ℤ pos (q * q)) *ℤ pos b) *ℤ pos a
      out v q b a = ring (v ∷ pos q ∷ pos b ∷ pos a ∷ []) (at 0 ⊗ ((at 1 ⊗ (at 1 ⊗ at 2)) ⊗ at 3)) (((at 0 ⊗ (at 1 ⊗ at 1)) ⊗ at 2) ⊗ at 3) refl

  own_lasts : lasting (finer a (hold ++ rest)) ≡ c.own.time * (q * b) * a
  own_lasts = lasting_finer a (hold ++ rest) ∙ ap (λ n. n * a) (touching.lasts q c.own hold rest is.response)

  other_lasts : lasting (finer b turn) ≡ c.own.time * (q * b) * a
  other_lasts = lasting_finer b turn ∙ ap (λ n. n * b) (touching.lasts q other [] turn is.against) ∙ line c.own.time q a b
    where
      line : (t q a b : ℕ) → t * (q * a) * b ≡ t * (q * b) * a
      line t q a b = omega arith

  in_time : IsDuring whole w (lasting (finer a (hold ++ rest)))
  in_time = rw own_lasts (widen (q * (q * b * a)) whole (c.own.time * (q * b * a)) (c.own.time * (q * b) * a) (omega arith) (omega arith) (IsDuring-finer q (q * b * a) w c.own.time of.own.time))
    where
      widen : (q q' t t' : ℕ) → q ≡ q' → t ≡ t' → IsDuring q w t → IsDuring q' w t'
      widen q q' t t' e f h = rw (e, f) at h

  meets_own : Meets (scaled whole demand) (own_rate *ℤ pos whole) (finer a (hold ++ rest))
  meets_own = rw (start-finer (fine q c.own) a (c.own.own *ℤ pos b), ← scaled-finer (fine q c.own) a demand)
      (finer_meet a (scaled (fine q c.own) demand) ((c.own.own *ℤ pos b) *ℤ pos (fine q c.own)) (hold ++ rest) some_a (touching.meets 0 demand area w q c.own p s of.own hold rest is.response))

  flown_other : IsFlown (over whole may) (other_rate *ℤ pos whole) (finer b turn)
  flown_other = by (fine q other * b) same_whole ((c.own.intruder *ℤ pos a) *ℤ pos b) swapped
      (rw (start-finer (fine q other) b (c.own.intruder *ℤ pos a), ← over-finer (fine q other) b may) (flown-finer b (over (fine q other) may) ((c.own.intruder *ℤ pos a) *ℤ pos (fine q other)) turn s flown))
    where
      by : (n : ℕ) → n ≡ whole → (x : ℤ) → x ≡ other_rate → IsFlown (over n may) (x *ℤ pos n) (finer b turn) → IsFlown (over whole may) (other_rate *ℤ pos whole) (finer b turn)
      by n e x f h = rw (e, f) at h

  -- the two climbs
  own_climbs : climb (own_rate *ℤ pos whole) (finer a (hold ++ rest)) *ℤ pos b ≡ held c.own.own c.own.aim c.own.pull c.own.hold c.own.time *ℤ pos ((q * b * a) * (q * b * a) * (q * b * a))
  own_climbs =
      ap (λ z. z *ℤ pos b) (ap (λ v. climb v (finer a (hold ++ rest))) (start-finer (fine q c.own) a (c.own.own *ℤ pos b)) ∙ climb_finer a ((c.own.own *ℤ pos b) *ℤ pos (fine q c.own)) (hold ++ rest))
      ∙ turn_left _ (pos (a * a * a)) (pos b) ∙ ap (λ z. z *ℤ pos (a * a * a)) (climb-response q c.own hold rest p s is.response)
      ∙ cube (held c.own.own c.own.aim c.own.pull c.own.hold c.own.time) q b a
    where
      turn_left : (x y z : ℤ) → (x *ℤ y) *ℤ z ≡ (x *ℤ z) *ℤ y
      turn_left x y z = ring (x ∷ y ∷ z ∷ []) ((at 0 ⊗ at 1) ⊗ at 2) ((at 0 ⊗ at 2) ⊗ at 1) refl

      cube : (o : ℤ) (q b a : ℕ) → (o *ℤ pos ((q * b) * (q * b) * (q * b))) *ℤ pos (a * a * a) ≡ o *ℤ pos ((q * b * a) * (q * b * a) * (q * b * a))
      cube o q b a = ring (o ∷ pos q ∷ pos b ∷ pos a ∷ []) ((at 0 ⊗ (((at 1 ⊗ at 2) ⊗ (at 1 ⊗ at 2)) ⊗ (at 1 ⊗ at 2))) ⊗ ((at 3 ⊗ at 3) ⊗ at 3)) (at 0 ⊗ ((((at 1 ⊗ at 2) ⊗ at 3) ⊗ ((at 1 ⊗ at 2) ⊗ at 3)) ⊗ ((at 1 ⊗ at 2) ⊗ at 3))) refl

  other_climbs : climb (other_rate *ℤ pos whole) (finer b turn) *ℤ pos a ≡ approach c.own.intruder c.goal a c.own.time *ℤ pos ((q * b * a) * (q * b * a) * (q * b * a))
  other_climbs =
      ap₂ (λ (v : ℤ) (n : ℕ). climb (v *ℤ pos n) (finer b turn) *ℤ pos a) (sym swapped) (sym same_whole)
      ∙ ap (λ z. z *ℤ pos a) (ap (λ v. climb v (finer b turn)) (start-finer (fine q other) b (c.own.intruder *ℤ pos a)) ∙ climb_finer b ((c.own.intruder *ℤ pos a) *ℤ pos (fine q other)) turn)
      ∙ turn_left _ (pos (b * b * b)) (pos a) ∙ ap (λ z. z *ℤ pos (b * b * b)) (climb-response q other [] turn p some_a is.against ∙ ap (λ y. y *ℤ pos (scale q other * scale q other * scale q other)) (held-none c.own.intruder c.goal a c.own.time))
      ∙ cube (approach c.own.intruder c.goal a c.own.time) q b a
    where
      turn_left : (x y z : ℤ) → (x *ℤ y) *ℤ z ≡ (x *ℤ z) *ℤ y
      turn_left x y z = ring (x ∷ y ∷ z ∷ []) ((at 0 ⊗ at 1) ⊗ at 2) ((at 0 ⊗ at 2) ⊗ at 1) refl

      cube : (o : ℤ) (q b a : ℕ) → (o *ℤ pos ((q * a) * (q * a) * (q * a))) *ℤ pos (b * b * b) ≡ o *ℤ pos ((q * b * a) * (q * b * a) * (q * b * a))
      cube o q b a = ring (o ∷ pos q ∷ pos b ∷ pos a ∷ []) ((at 0 ⊗ (((at 1 ⊗ at 3) ⊗ (at 1 ⊗ at 3)) ⊗ (at 1 ⊗ at 3))) ⊗ ((at 2 ⊗ at 2) ⊗ at 2)) (at 0 ⊗ ((((at 1 ⊗ at 2) ⊗ at 3) ⊗ ((at 1 ⊗ at 2) ⊗ at 3)) ⊗ ((at 1 ⊗ at 2) ⊗ at 3))) refl

  -- the separation, times the pull and the acceleration, is the value, turned upside down
  apart : pos (b * a) *ℤ ((((c.own.altitude *ℤ pos whole) *ℤ pos (whole * whole)) +ℤ climb (other_rate *ℤ pos whole) (finer b turn)) -ℤ climb (own_rate *ℤ pos whole) (finer a (hold ++ rest)))
      ≡ neg_ℤ (pos ((q * b * a) * (q * b * a) * (q * b * a)) *ℤ (value q a c).num)
  apart = line c.own.altitude q b a _ _ _ _ own_climbs other_climbs
    where
      line : (h : ℤ) (q b a : ℕ) (y z o i : ℤ) → z *ℤ pos b ≡ o *ℤ pos ((q * b * a) * (q * b * a) * (q * b * a)) → y *ℤ pos a ≡ i *ℤ pos ((q * b * a) * (q * b * a) * (q * b * a)) →
          pos (b * a) *ℤ ((((h *ℤ pos ((q * (q * b)) * a)) *ℤ pos (((q * (q * b)) * a) * ((q * (q * b)) * a))) +ℤ y) -ℤ z)
          ≡ neg_ℤ (pos ((q * b * a) * (q * b * a) * (q * b * a)) *ℤ ((o *ℤ pos a) -ℤ (((h *ℤ pos (q * q * q * a)) +ℤ i) *ℤ pos b)))
      line h q b a y z o i e f =
          ring (h ∷ pos q ∷ pos b ∷ pos a ∷ y ∷ z ∷ [])
          ((at 2 ⊗ at 3) ⊗ ((((at 0 ⊗ ((at 1 ⊗ (at 1 ⊗ at 2)) ⊗ at 3)) ⊗ (((at 1 ⊗ (at 1 ⊗ at 2)) ⊗ at 3) ⊗ ((at 1 ⊗ (at 1 ⊗ at 2)) ⊗ at 3))) ⊕ at 4) ⊖ at 5))
          (((((at 2 ⊗ at 3) ⊗ at 0) ⊗ (((at 1 ⊗ at 1) ⊗ at 1) ⊗ ((((at 1 ⊗ at 2) ⊗ at 3) ⊗ ((at 1 ⊗ at 2) ⊗ at 3)) ⊗ ((at 1 ⊗ at 2) ⊗ at 3)))) ⊕ ((at 4 ⊗ at 3) ⊗ at 2)) ⊖ ((at 5 ⊗ at 2) ⊗ at 3))
          refl
          ∙ ap₂ (λ (m n : ℤ). ((((pos b *ℤ pos a) *ℤ h) *ℤ (pos (q * q * q) *ℤ pos ((q * b * a) * (q * b * a) * (q * b * a)))) +ℤ (m *ℤ pos b)) -ℤ (n *ℤ pos a)) f e
          ∙ ring (h ∷ pos q ∷ pos b ∷ pos a ∷ i ∷ o ∷ [])
          (((((at 2 ⊗ at 3) ⊗ at 0) ⊗ (((at 1 ⊗ at 1) ⊗ at 1) ⊗ ((((at 1 ⊗ at 2) ⊗ at 3) ⊗ ((at 1 ⊗ at 2) ⊗ at 3)) ⊗ ((at 1 ⊗ at 2) ⊗ at 3)))) ⊕ ((at 4 ⊗ ((((at 1 ⊗ at 2) ⊗ at 3) ⊗ ((at 1 ⊗ at 2) ⊗ at 3)) ⊗ ((at 1 ⊗ at 2) ⊗ at 3))) ⊗ at 2)) ⊖ ((at 5 ⊗ ((((at 1 ⊗ at 2) ⊗ at 3) ⊗ ((at 1 ⊗ at 2) ⊗ at 3)) ⊗ ((at 1 ⊗ at 2) ⊗ at 3))) ⊗ at 3))
          (num (pos 0) ⊖ (((((at 1 ⊗ at 2) ⊗ at 3) ⊗ ((at 1 ⊗ at 2) ⊗ at 3)) ⊗ ((at 1 ⊗ at 2) ⊗ at 3)) ⊗ ((at 5 ⊗ at 3) ⊖ (((at 0 ⊗ (((at 1 ⊗ at 1) ⊗ at 1) ⊗ at 3)) ⊕ at 4) ⊗ at 2))))
          refl
          ∙ zero-sub_ℤ _

  close : IsWithinHalf half (value q a c) → IsClose half whole (c.own.altitude *ℤ pos whole) (climb (other_rate *ℤ pos whole) (finer b turn)) (climb (own_rate *ℤ pos whole) (finer a (hold ++ rest)))
  close within = unsigned_abs-le _ _
      (le-from_mul_ℤ (b * a) _ _ (mul-pos s some_a) (low _ _ _ _ apart (band half q b a) (mul-neg_ℤ (pos (b * a)) (pos (half * (whole * whole * whole)))) (mul-le_ℤ ((q * b * a) * (q * b * a) * (q * b * a)) _ _ within.not_above)))
      (le-from_mul_ℤ (b * a) _ _ (mul-pos s some_a) (high _ _ _ _ _ apart (band half q b a) (mul-neg_ℤ (pos ((q * b * a) * (q * b * a) * (q * b * a))) (pos (half * (q * q * q * b * a)))) (mul-le_ℤ ((q * b * a) * (q * b * a) * (q * b * a)) _ _ within.not_below)))
    where
      band : (half q b a : ℕ) → (b * a) * (half * (((q * (q * b)) * a) * ((q * (q * b)) * a) * ((q * (q * b)) * a))) ≡ ((q * b * a) * (q * b * a) * (q * b * a)) * (half * (q * q * q * b * a))
      band half q b a = omega arith

      low : (x n : ℤ) (i j : ℕ) {m : ℤ} → x ≡ neg_ℤ n → i ≡ j → m ≡ neg_ℤ (pos i) → n ≤ℤ pos j → m ≤ℤ x
      low x n i j e f g h = omega (arith, ints, e, f, g, h)

      high : (x n m : ℤ) (i j : ℕ) → x ≡ neg_ℤ n → i ≡ j → m ≡ neg_ℤ (pos j) → m ≤ℤ n → x ≤ℤ pos i
      high x n m i j e f g h = omega (arith, ints, e, f, g, h)

  -- a course of the area whose value is within the half height is a meeting
  pub meets-during : IsWithinHalf half (value q a c) → MeetsDuring half demand may area w whole (c.own.altitude *ℤ pos whole) own_rate other_rate (finer a (hold ++ rest)) (finer b turn)
  meets-during within = record {
    some = mul-pos (mul-pos p (mul-pos p s)) some_a;
    altitude = (scaled_le _ _ whole of.own.not_under, scaled_le _ _ whole of.own.not_over);
    own = inside area.own c.own.own of.own.own;
    intruder = inside area.intruder c.own.intruder of.own.intruder;
    time = in_time;
    meets = meets_own;
    flown = flown_other;
    together = other_lasts ∙ sym own_lasts;
    close = close within;
  }
