-- An area that is apart from an intruder that may change its rate is not endangered by a manoeuvre.
use Rattle.std.proofs.Common.{◌≡◌, ℕ, ◌*◌, ◌<◌, ⊎_elim, refl, ap, ap₂, ◌∙◌, arith, List, [], ◌∷◌, ℤ, pos, ◌+ℤ◌, ◌-ℤ◌, ◌*ℤ◌, ◌≤ℤ◌, ◌<ℤ◌, neg_ℤ, mul-pos}
use Rattle.std.proofs.lemmas.Int.{ints}
use Rattle.acas_frac.proofs.SignedProducts.{le-trans_ℤ, neg-mul_ℤ}
use Rattle.acas_frac.proofs.IntRing.{at, ◌⊕◌, ◌⊖◌, ◌⊗◌, ring, mul_pos_mul_ℤ}
use Rattle.acas_frac.proofs.Orders.{unsigned_abs-low, unsigned_abs-high}
use Rattle.acas_flight.specs.Response.{Segment, Demand, scaled, climb, lasting}
use Rattle.acas_flight.specs.Parts.{CanBeMet}
use Rattle.acas_flight.specs.Curves.{approach, held, lowest, highest, low_pull, low_hold, high_pull, high_hold}
use Rattle.acas_flight.specs.Window.{Times}
use Rattle.acas_flight.specs.Clear.{Area}
use Rattle.acas_rulings.specs.Intruder.{Manoeuvre, over}
use Rattle.acas_rulings.specs.Meeting.{MeetsDuring, IsEndangeredDuringBy}
use Rattle.acas_rulings.specs.Race.{low_race, high_race, own_climb, race_gap, race_tick}
use Rattle.acas_rulings.specs.Apart.{IsApart}
use Rattle.acas_flight_lemmas.proofs.Rising.{scaled_le}
use Rattle.acas_flight_lemmas.proofs.Models.{scaled_can_be_met}
use Rattle.acas_flight_lemmas.proofs.Gaps.{low_pull-over, low_hold-over, high_pull-over, high_hold-over}
use Rattle.acas_flight_lemmas.proofs.Safe.{low_bound, high_bound, least_start, greatest_start}
use Rattle.acas_manoeuvre_lemmas.proofs.Envelope.{flown-above, flown-under, approach-rises}

-- ---- a race's curve, over q

module _ (a : Demand) (q : ℕ) (p : 0 < q) where
  lowest-race : (v : ℤ) (t : ℕ) → lowest (scaled q a) (v *ℤ pos (q * q)) t ≡ held (v *ℤ pos (q * q)) (a.lo *ℤ pos (q * q)) (low_pull a v * q) (low_hold a v * q) t
  lowest-race v t = ap₂ (λ (b g : ℕ). held (v *ℤ pos (q * q)) (a.lo *ℤ pos (q * q)) b g t) (low_pull-over a v q p) (low_hold-over a v q p)

  highest-race : (v : ℤ) (t : ℕ) → highest (scaled q a) (v *ℤ pos (q * q)) t ≡ held (v *ℤ pos (q * q)) (a.hi *ℤ pos (q * q)) (high_pull a v * q) (high_hold a v * q) t
  highest-race v t = ap₂ (λ (b g : ℕ). held (v *ℤ pos (q * q)) (a.hi *ℤ pos (q * q)) b g t) (high_pull-over a v q p) (high_hold-over a v q p)

-- ---- no flight comes between

-- own climb z from l up, the intruder from h and y up to i and j: over the pull b and the acceleration c
no_room : (b c n : ℕ) (l z i h j y : ℤ) → l ≤ℤ (z *ℤ pos b) → h ≤ℤ i → (y *ℤ pos c) ≤ℤ j → pos (n * b * c) <ℤ ((l *ℤ pos c) -ℤ (((i *ℤ pos c) +ℤ j) *ℤ pos b)) → neg_ℤ (pos n) ≤ℤ ((h +ℤ y) -ℤ z) → ⊥
no_room b c n l z i h j y low high far apart near =
    line (l *ℤ pos c) ((z *ℤ pos b) *ℤ pos c) (((i *ℤ pos c) +ℤ j) *ℤ pos b) (((h *ℤ pos c) +ℤ (y *ℤ pos c)) *ℤ pos b) (pos (n * b * c)) _ _
    (scaled_le l (z *ℤ pos b) c low)
    (scaled_le ((h *ℤ pos c) +ℤ (y *ℤ pos c)) ((i *ℤ pos c) +ℤ j) b (sum (h *ℤ pos c) (i *ℤ pos c) (y *ℤ pos c) j (scaled_le h i c high) far))
    (scaled_le _ _ c (scaled_le (neg_ℤ (pos n)) ((h +ℤ y) -ℤ z) b near)) below above apart
  where
    sum : (a b c d : ℤ) → a ≤ℤ b → c ≤ℤ d → (a +ℤ c) ≤ℤ (b +ℤ d)
    sum a b c d h k = omega (arith, ints)

    below : (neg_ℤ (pos n) *ℤ pos b) *ℤ pos c ≡ neg_ℤ (pos (n * b * c))
    below = ap (λ x. x *ℤ pos c) (neg-mul_ℤ (pos n) (pos b)) ∙ neg-mul_ℤ (pos n *ℤ pos b) (pos c)

    above : (((h +ℤ y) -ℤ z) *ℤ pos b) *ℤ pos c ≡ (((h *ℤ pos c) +ℤ (y *ℤ pos c)) *ℤ pos b) -ℤ ((z *ℤ pos b) *ℤ pos c)
    above = ring (h ∷ y ∷ z ∷ pos b ∷ pos c ∷ [])
        ((((at 0 ⊕ at 1) ⊖ at 2) ⊗ at 3) ⊗ at 4)
        ((((at 0 ⊗ at 4) ⊕ (at 1 ⊗ at 4)) ⊗ at 3) ⊖ ((at 2 ⊗ at 3) ⊗ at 4))
        refl

    line : (lc zc ij hy n d e : ℤ) → lc ≤ℤ zc → hy ≤ℤ ij → d ≤ℤ e → d ≡ neg_ℤ n → e ≡ hy -ℤ zc → n <ℤ (lc -ℤ ij) → ⊥
    line lc zc ij hy n d e p q r s t u = omega (arith, ints)

-- the same from above
no_room_under : (b c n : ℕ) (l z i h j y : ℤ) → (z *ℤ pos b) ≤ℤ l → i ≤ℤ h → j ≤ℤ (y *ℤ pos c) → ((l *ℤ pos c) -ℤ (((i *ℤ pos c) +ℤ j) *ℤ pos b)) <ℤ neg_ℤ (pos (n * b * c)) → ((h +ℤ y) -ℤ z) ≤ℤ pos n → ⊥
no_room_under b c n l z i h j y low high far apart near =
    line (l *ℤ pos c) ((z *ℤ pos b) *ℤ pos c) (((i *ℤ pos c) +ℤ j) *ℤ pos b) (((h *ℤ pos c) +ℤ (y *ℤ pos c)) *ℤ pos b) (pos (n * b * c)) _
    (scaled_le (z *ℤ pos b) l c low)
    (scaled_le ((i *ℤ pos c) +ℤ j) ((h *ℤ pos c) +ℤ (y *ℤ pos c)) b (sum (i *ℤ pos c) (h *ℤ pos c) j (y *ℤ pos c) (scaled_le i h c high) far))
    (scaled_le _ _ c (scaled_le ((h +ℤ y) -ℤ z) (pos n) b near)) above apart
  where
    sum : (a b c d : ℤ) → a ≤ℤ b → c ≤ℤ d → (a +ℤ c) ≤ℤ (b +ℤ d)
    sum a b c d h k = omega (arith, ints)

    above : (((h +ℤ y) -ℤ z) *ℤ pos b) *ℤ pos c ≡ (((h *ℤ pos c) +ℤ (y *ℤ pos c)) *ℤ pos b) -ℤ ((z *ℤ pos b) *ℤ pos c)
    above = ring (h ∷ y ∷ z ∷ pos b ∷ pos c ∷ [])
        ((((at 0 ⊕ at 1) ⊖ at 2) ⊗ at 3) ⊗ at 4)
        ((((at 0 ⊗ at 4) ⊕ (at 1 ⊗ at 4)) ⊗ at 3) ⊖ ((at 2 ⊗ at 3) ⊗ at 4))
        refl

    line : (lc zc ij hy n e : ℤ) → zc ≤ℤ lc → ij ≤ℤ hy → e ≤ℤ n → e ≡ hy -ℤ zc → (lc -ℤ ij) <ℤ neg_ℤ n → ⊥
    line lc zc ij hy n e p q r t u = omega (arith, ints)

-- an altitude in numbers over q^3
cube : (q : ℕ) (s : ℤ) → s *ℤ pos (q * q * q) ≡ (s *ℤ pos q) *ℤ pos (q * q)
cube q s = ring (s ∷ pos q ∷ []) (at 0 ⊗ ((at 1 ⊗ at 1) ⊗ at 1)) ((at 0 ⊗ at 1) ⊗ (at 1 ⊗ at 1)) refl

height : (q c : ℕ) (s : ℤ) → s *ℤ pos (q * q * q * c) ≡ (s *ℤ pos (q * q * q)) *ℤ pos c
height q c s = mul_pos_mul_ℤ s (q * q * q) c

module _ (half : ℕ) (a : Demand) (may : Manoeuvre) (area : Area) (w : Times) (can : CanBeMet a) (some : 0 < may.accel) where
  above : (q : ℕ) (h v x : ℤ) (r f : List Segment) → MeetsDuring half a may area w q h v x r f → pos (half * race_tick (low_race a may area) q) <ℤ race_gap (low_race a may area) q (lasting r) → ⊥
  above q h v x r f m apart =
      no_room (low_pull a area.own.least * q) (may.accel * q) (half * (q * q * q))
      (own_climb (low_race a may area) q (lasting r)) (climb (v *ℤ pos q) r)
      (area.altitude.greatest *ℤ pos (q * q * q)) (h *ℤ pos (q * q))
      (approach (area.intruder.greatest *ℤ pos (q * q)) (pos may.rate *ℤ pos (q * q)) (may.accel * q) (lasting r)) (climb (x *ℤ pos q) f)
      (rw (lowest-race a q m.some area.own.least (lasting r), low_pull-over a area.own.least q m.some)
      at (low_bound (scaled q a) (scaled_can_be_met q a m.some can) (area.own.least *ℤ pos (q * q)) (v *ℤ pos q) r (least_start q area.own.least v m.own.0) m.meets))
      (rw (cube q area.altitude.greatest) (scaled_le h (area.altitude.greatest *ℤ pos q) (q * q) m.altitude.1))
      (le-trans_ℤ _ _ _ (rw m.together at (flown-under (over q may) (x *ℤ pos q) f (mul-pos some m.some) m.flown))
      (approach-rises (pos (may.rate * (q * q))) (may.accel * q) (mul-pos some m.some) (x *ℤ pos q) (area.intruder.greatest *ℤ pos (q * q)) (lasting r) (greatest_start q area.intruder.greatest x m.intruder.1)))
      (ticks (rw (height q (may.accel * q) area.altitude.greatest) at apart))
      (unsigned_abs-low _ _ m.close)
    where
      ticks : {z : ℤ} → pos (half * (q * q * q * (low_pull a area.own.least * q) * (may.accel * q))) <ℤ z → pos (half * (q * q * q) * (low_pull a area.own.least * q) * (may.accel * q)) <ℤ z
      ticks h = let e : half * (q * q * q * (low_pull a area.own.least * q) * (may.accel * q)) ≡ half * (q * q * q) * (low_pull a area.own.least * q) * (may.accel * q) = omega arith in rw e at h

  below : (q : ℕ) (h v x : ℤ) (r f : List Segment) → MeetsDuring half a may area w q h v x r f → race_gap (high_race a may area) q (lasting r) <ℤ neg_ℤ (pos (half * race_tick (high_race a may area) q)) → ⊥
  below q h v x r f m apart =
      no_room_under (high_pull a area.own.greatest * q) (may.accel * q) (half * (q * q * q))
      (own_climb (high_race a may area) q (lasting r)) (climb (v *ℤ pos q) r)
      (area.altitude.least *ℤ pos (q * q * q)) (h *ℤ pos (q * q))
      (approach (area.intruder.least *ℤ pos (q * q)) (neg_ℤ (pos may.rate) *ℤ pos (q * q)) (may.accel * q) (lasting r)) (climb (x *ℤ pos q) f)
      (rw (highest-race a q m.some area.own.greatest (lasting r), high_pull-over a area.own.greatest q m.some)
      at (high_bound (scaled q a) (scaled_can_be_met q a m.some can) (area.own.greatest *ℤ pos (q * q)) (v *ℤ pos q) r (greatest_start q area.own.greatest v m.own.1) m.meets))
      (rw (cube q area.altitude.least) (scaled_le (area.altitude.least *ℤ pos q) h (q * q) m.altitude.0))
      (le-trans_ℤ _ _ _ (rw (neg-mul_ℤ (pos may.rate) (pos (q * q))) (approach-rises (neg_ℤ (pos (may.rate * (q * q)))) (may.accel * q) (mul-pos some m.some) (area.intruder.least *ℤ pos (q * q)) (x *ℤ pos q) (lasting r) (least_start q area.intruder.least x m.intruder.0)))
      (rw m.together at (flown-above (over q may) (x *ℤ pos q) f (mul-pos some m.some) m.flown)))
      (ticks (rw (height q (may.accel * q) area.altitude.least) at apart))
      (unsigned_abs-high _ _ m.close)
    where
      ticks : {z : ℤ} → z <ℤ neg_ℤ (pos (half * (q * q * q * (high_pull a area.own.greatest * q) * (may.accel * q)))) → z <ℤ neg_ℤ (pos (half * (q * q * q) * (high_pull a area.own.greatest * q) * (may.accel * q)))
      ticks h = let e : half * (q * q * q * (high_pull a area.own.greatest * q) * (may.accel * q)) ≡ half * (q * q * q) * (high_pull a area.own.greatest * q) * (may.accel * q) = omega arith in rw e at h

  pub apart-safe : IsApart half a may area w → ¬ IsEndangeredDuringBy half a may area w
  apart-safe apart danger = by danger.0 danger.1 danger.2 danger.3 danger.4 danger.5 danger.6 apart
    where
      by : (q : ℕ) (h v x : ℤ) (r f : List Segment) → MeetsDuring half a may area w q h v x r f → IsApart half a may area w → ⊥
      by q h v x r f m apart = ⊎_elim
          (λ l. above q h v x r f m (l q (lasting r) m.some m.time))
          (λ l. below q h v x r f m (l q (lasting r) m.some m.time))
          apart
