-- A clear area is not endangered.
use Rattle.std.proofs.Common.{◌≡◌, ℕ, ◌*◌, ◌<◌, ⊎_elim, refl, ap, ap₂, ◌∙◌, arith, Bool, true, false, cond, List, [], ◌∷◌, ℤ, pos, ◌+ℤ◌, ◌-ℤ◌, ◌*ℤ◌, ◌≤ℤ◌, ◌<ℤ◌, neg_ℤ, int_lt}
use Rattle.std.proofs.lemmas.Int.{ints}
use lib.IntN.{*ℤ_comm}
use Rattle.acas_frac.proofs.SignedProducts.{mul-le_ℤ, le-from_mul_ℤ, lt-from_mul_ℤ, neg-mul_ℤ, le-trans_ℤ}
use Rattle.acas_frac.proofs.IntRing.{at, num, ◌⊖◌, ◌⊗◌, ring, mul_pos_mul_ℤ, mul_swapped_ℤ}
use Rattle.acas_frac.proofs.Orders.{cases_lt_ℤ, turned_le, unsigned_abs-low, unsigned_abs-high}
use Rattle.acas_flight.proofs.Between.{low_pull-below, low_pull-above}
use Rattle.acas_flight.proofs.Holding.{meets_above}
use Rattle.acas_flight_lemmas.proofs.Rising.{lowest_rises, scaled_le}
use Rattle.acas_flight_lemmas.proofs.Models.{scaled_can_be_met}
use Rattle.acas_flight_lemmas.proofs.Mirror.{meets_under, turned_demand, turned_lowest, turned_test}
use Rattle.acas_flight.specs.Response.{Segment, Demand, scaled, climb, lasting, Meets}
use Rattle.acas_flight.specs.Contact.{vertical_separation}
use Rattle.acas_flight.specs.Parts.{CanBeMet}
use Rattle.acas_flight.specs.Curves.{lowest, highest, low_pull, high_pull}
use Rattle.acas_flight.specs.Window.{Times}
use Rattle.acas_flight.specs.Clear.{Area, EndsInVerticalContact, IsEndangeredDuring, low_pull_of, high_pull_of, least_gap, greatest_gap, IsClear}

pub low_pull-some : (a : Demand) (v : ℤ) → CanBeMet a → 0 < low_pull a v
low_pull-some a v f = ⊎_elim (λ h. rw (low_pull-below a v h) f.some_pull) (λ h. rw (low_pull-above a v h) (omega (arith, f.some_pull, f.pull_within))) (cases_lt_ℤ v a.lo)

-- the least start rate, over q^2, is at most the start rate, and the greatest is at least
pub least_start : (q : ℕ) (s : ℤ) (v : ℤ) → (s *ℤ pos q) ≤ℤ v → (s *ℤ pos (q * q)) ≤ℤ (v *ℤ pos q)
least_start q s v h = rw (mul_pos_mul_ℤ s q q) (scaled_le (s *ℤ pos q) v q h)

-- The low curve from the least start rate is under each flight.
pub low_bound : (a : Demand) → CanBeMet a → (s v : ℤ) (r : List Segment) → s ≤ℤ v → Meets a v r → lowest a s (lasting r) ≤ℤ (climb v r *ℤ pos (low_pull a s))
low_bound a f s v r h m =
    let own = scaled_le (lowest a v (lasting r)) (climb v r *ℤ pos (low_pull a v)) (low_pull a s) (meets_above a f v r m) in
    let both = le-trans_ℤ (lowest a s (lasting r) *ℤ pos (low_pull a v)) (lowest a v (lasting r) *ℤ pos (low_pull a s)) ((climb v r *ℤ pos (low_pull a v)) *ℤ pos (low_pull a s)) (lowest_rises a s v (lasting r) h) own in
    let turned = rw (mul_swapped_ℤ (climb v r) (pos (low_pull a v)) (pos (low_pull a s)), *ℤ_comm (lowest a s (lasting r)) (pos (low_pull a v))) at both in
    le-from_mul_ℤ (low_pull a v) (lowest a s (lasting r)) (climb v r *ℤ pos (low_pull a s)) (low_pull-some a v f) turned

-- The same of the high curve, turned upside down.
pub highest_rises : (a : Demand) (v w : ℤ) (t : ℕ) → v ≤ℤ w → (highest a v t *ℤ pos (high_pull a w)) ≤ℤ (highest a w t *ℤ pos (high_pull a v))
highest_rises a v w t h =
    let low = lowest_rises (turned_demand a) (neg_ℤ w) (neg_ℤ v) t (omega (arith, ints)) in
    let left : lowest (turned_demand a) (neg_ℤ w) t *ℤ pos (low_pull (turned_demand a) (neg_ℤ v)) ≡ neg_ℤ (highest a w t *ℤ pos (high_pull a v)) =
    ap₂ (λ z b. z *ℤ pos b) (turned_lowest a w t) (turned_pull a v) ∙ neg-mul_ℤ (highest a w t) (pos (high_pull a v)) in
    let right : lowest (turned_demand a) (neg_ℤ v) t *ℤ pos (low_pull (turned_demand a) (neg_ℤ w)) ≡ neg_ℤ (highest a v t *ℤ pos (high_pull a w)) =
    ap₂ (λ z b. z *ℤ pos b) (turned_lowest a v t) (turned_pull a w) ∙ neg-mul_ℤ (highest a v t) (pos (high_pull a w)) in
    turned_le left right low
  where
    turned_pull : (a : Demand) (v : ℤ) → low_pull (turned_demand a) (neg_ℤ v) ≡ high_pull a v
    turned_pull a v = ap (λ t. cond t a.pull a.limit) (turned_test v a.hi)

pub greatest_start : (q : ℕ) (s : ℤ) (v : ℤ) → v ≤ℤ (s *ℤ pos q) → (v *ℤ pos q) ≤ℤ (s *ℤ pos (q * q))
greatest_start q s v h = rw (mul_pos_mul_ℤ s q q) (scaled_le v (s *ℤ pos q) q h)

pub high_pull-some : (a : Demand) (v : ℤ) → CanBeMet a → 0 < high_pull a v
high_pull-some a v f = by (int_lt a.hi v)
  where
    by : (t : Bool) → 0 < cond t a.pull a.limit
    by true = f.some_pull
    by false = omega (arith, f.some_pull, f.pull_within)

pub high_bound : (a : Demand) → CanBeMet a → (s v : ℤ) (r : List Segment) → v ≤ℤ s → Meets a v r → (climb v r *ℤ pos (high_pull a s)) ≤ℤ highest a s (lasting r)
high_bound a f s v r h m =
    let own = scaled_le (climb v r *ℤ pos (high_pull a v)) (highest a v (lasting r)) (high_pull a s) (meets_under a f v r m) in
    let both = le-trans_ℤ ((climb v r *ℤ pos (high_pull a v)) *ℤ pos (high_pull a s)) (highest a v (lasting r) *ℤ pos (high_pull a s)) (highest a s (lasting r) *ℤ pos (high_pull a v)) own (highest_rises a v s (lasting r) h) in
    let turned = rw (mul_swapped_ℤ (climb v r) (pos (high_pull a v)) (pos (high_pull a s)), *ℤ_comm (highest a s (lasting r)) (pos (high_pull a v))) at both in
    le-from_mul_ℤ (high_pull a v) (climb v r *ℤ pos (high_pull a s)) (highest a s (lasting r)) (high_pull-some a v f) turned

no_room_under : (p n : ℕ) (l z s x : ℤ) → (z *ℤ pos p) ≤ℤ l → (l -ℤ (pos p *ℤ s)) <ℤ (pos p *ℤ neg_ℤ (pos n)) → s ≤ℤ (x -ℤ pos 0) → (x -ℤ z) ≤ℤ pos n → ⊥
no_room_under p n l z s x h k i j =
    let bottom = mul-le_ℤ p s (x -ℤ pos 0) i in
    let split : pos p *ℤ (z -ℤ x) ≡ (z *ℤ pos p) -ℤ (pos p *ℤ (x -ℤ pos 0)) =
    ring (pos p ∷ z ∷ x ∷ []) (at 0 ⊗ (at 1 ⊖ at 2)) ((at 1 ⊗ at 0) ⊖ (at 0 ⊗ (at 2 ⊖ num (pos 0)))) refl in
    let less = lt-from_mul_ℤ p (z -ℤ x) (neg_ℤ (pos n)) (rw split (line l (z *ℤ pos p) (pos p *ℤ s) (pos p *ℤ (x -ℤ pos 0)) (pos p *ℤ neg_ℤ (pos n)) h k bottom)) in
    last (pos n) z x less j
  where
    line : (l zp ps px n : ℤ) → zp ≤ℤ l → (l -ℤ ps) <ℤ n → ps ≤ℤ px → (zp -ℤ px) <ℤ n
    line l zp ps px n h k i = omega (arith, ints)

    last : (n z x : ℤ) → (z -ℤ x) <ℤ neg_ℤ n → (x -ℤ z) ≤ℤ n → ⊥
    last n z x h k = omega (arith, ints)

no_room : (p n : ℕ) (l z s x : ℤ) → l ≤ℤ (z *ℤ pos p) → (pos p *ℤ pos n) <ℤ (l -ℤ (pos p *ℤ s)) → (x -ℤ pos 0) ≤ℤ s → neg_ℤ (pos n) ≤ℤ (x -ℤ z) → ⊥
no_room p n l z s x h k i j =
    let top = mul-le_ℤ p (x -ℤ pos 0) s i in
    let split : pos p *ℤ (z -ℤ x) ≡ (z *ℤ pos p) -ℤ (pos p *ℤ (x -ℤ pos 0)) =
    ring (pos p ∷ z ∷ x ∷ []) (at 0 ⊗ (at 1 ⊖ at 2)) ((at 1 ⊗ at 0) ⊖ (at 0 ⊗ (at 2 ⊖ num (pos 0)))) refl in
    let less = lt-from_mul_ℤ p (pos n) (z -ℤ x) (rw split (line l (z *ℤ pos p) (pos p *ℤ s) (pos p *ℤ (x -ℤ pos 0)) (pos p *ℤ pos n) h k top)) in
    last (pos n) z x less j
  where
    line : (l zp ps px n : ℤ) → l ≤ℤ zp → n <ℤ (l -ℤ ps) → px ≤ℤ ps → n <ℤ (zp -ℤ px)
    line l zp ps px n h k i = omega (arith, ints)

    last : (n z x : ℤ) → n <ℤ (z -ℤ x) → neg_ℤ n ≤ℤ (x -ℤ z) → ⊥
    last n z x h k = omega (arith, ints)

sums_le : (a b c d : ℤ) → a ≤ℤ b → c ≤ℤ d → ((a +ℤ c) -ℤ pos 0) ≤ℤ ((b +ℤ d) -ℤ pos 0)
sums_le a b c d h k = omega (arith, ints)

module _ (half : ℕ) (a : Demand) (area : Area) (w : Times) (fine : CanBeMet a) where
  -- the intruder of the area's greatest altitude and rate is the highest
  highest_intruder : (q : ℕ) (h x : ℤ) (t : ℕ) → h ≤ℤ (area.altitude.greatest *ℤ pos q) → x ≤ℤ (area.intruder.greatest *ℤ pos q) →
      vertical_separation q h x t (pos 0) ≤ℤ vertical_separation q (area.altitude.greatest *ℤ pos q) (area.intruder.greatest *ℤ pos q) t (pos 0)
  highest_intruder q h x t i j =
      sums_le (h *ℤ pos (q * q)) ((area.altitude.greatest *ℤ pos q) *ℤ pos (q * q)) (((pos 2 *ℤ x) *ℤ pos t) *ℤ pos q) (((pos 2 *ℤ (area.intruder.greatest *ℤ pos q)) *ℤ pos t) *ℤ pos q) (scaled_le h (area.altitude.greatest *ℤ pos q) (q * q) i)
      (scaled_le ((pos 2 *ℤ x) *ℤ pos t) ((pos 2 *ℤ (area.intruder.greatest *ℤ pos q)) *ℤ pos t) q
      (scaled_le (pos 2 *ℤ x) (pos 2 *ℤ (area.intruder.greatest *ℤ pos q)) t (mul-le_ℤ 2 x (area.intruder.greatest *ℤ pos q) j)))

  over : (q : ℕ) (h v x : ℤ) (r : List Segment) → EndsInVerticalContact half a area w q h v x r →
      (pos (low_pull_of q a area) *ℤ pos (half * (q * q * q))) <ℤ least_gap q a area (lasting r) → ⊥
  over q h v x r touch clear =
      let bound = low_bound (scaled q a) (scaled_can_be_met q a touch.some fine) (area.own.least *ℤ pos (q * q)) (v *ℤ pos q) r (least_start q area.own.least v touch.own.0) touch.meets in
      let top = highest_intruder q h x (lasting r) touch.altitude.1 touch.intruder.1 in
      no_room (low_pull_of q a area) (half * (q * q * q)) (lowest (scaled q a) (area.own.least *ℤ pos (q * q)) (lasting r)) (climb (v *ℤ pos q) r)
      (vertical_separation q (area.altitude.greatest *ℤ pos q) (area.intruder.greatest *ℤ pos q) (lasting r) (pos 0))
      ((h *ℤ pos (q * q)) +ℤ (((pos 2 *ℤ x) *ℤ pos (lasting r)) *ℤ pos q)) bound clear top (unsigned_abs-low _ _ touch.contact)

  -- the intruder of the area's least altitude and rate is the lowest
  lowest_intruder : (q : ℕ) (h x : ℤ) (t : ℕ) → (area.altitude.least *ℤ pos q) ≤ℤ h → (area.intruder.least *ℤ pos q) ≤ℤ x →
      vertical_separation q (area.altitude.least *ℤ pos q) (area.intruder.least *ℤ pos q) t (pos 0) ≤ℤ vertical_separation q h x t (pos 0)
  lowest_intruder q h x t i j =
      sums_le ((area.altitude.least *ℤ pos q) *ℤ pos (q * q)) (h *ℤ pos (q * q)) (((pos 2 *ℤ (area.intruder.least *ℤ pos q)) *ℤ pos t) *ℤ pos q) (((pos 2 *ℤ x) *ℤ pos t) *ℤ pos q) (scaled_le (area.altitude.least *ℤ pos q) h (q * q) i)
      (scaled_le ((pos 2 *ℤ (area.intruder.least *ℤ pos q)) *ℤ pos t) ((pos 2 *ℤ x) *ℤ pos t) q
      (scaled_le (pos 2 *ℤ (area.intruder.least *ℤ pos q)) (pos 2 *ℤ x) t (mul-le_ℤ 2 (area.intruder.least *ℤ pos q) x j)))

  under : (q : ℕ) (h v x : ℤ) (r : List Segment) → EndsInVerticalContact half a area w q h v x r →
      greatest_gap q a area (lasting r) <ℤ (pos (high_pull_of q a area) *ℤ neg_ℤ (pos (half * (q * q * q)))) → ⊥
  under q h v x r touch clear =
      let bound = high_bound (scaled q a) (scaled_can_be_met q a touch.some fine) (area.own.greatest *ℤ pos (q * q)) (v *ℤ pos q) r (greatest_start q area.own.greatest v touch.own.1) touch.meets in
      let bottom = lowest_intruder q h x (lasting r) touch.altitude.0 touch.intruder.0 in
      no_room_under (high_pull_of q a area) (half * (q * q * q)) (highest (scaled q a) (area.own.greatest *ℤ pos (q * q)) (lasting r)) (climb (v *ℤ pos q) r)
      (vertical_separation q (area.altitude.least *ℤ pos q) (area.intruder.least *ℤ pos q) (lasting r) (pos 0))
      ((h *ℤ pos (q * q)) +ℤ (((pos 2 *ℤ x) *ℤ pos (lasting r)) *ℤ pos q)) bound clear bottom (unsigned_abs-high _ _ touch.contact)

pub clear_areas_are_safe : (half : ℕ) (a : Demand) (area : Area) (w : Times) → CanBeMet a → IsClear half a area w → ¬ IsEndangeredDuring half a area w
clear_areas_are_safe half a area w fine clear danger = by clear danger.0 danger.1 danger.2 danger.3 danger.4 danger.5
  where
    by : IsClear half a area w → (q : ℕ) (h v x : ℤ) (r : List Segment) → EndsInVerticalContact half a area w q h v x r → ⊥
    by c q h v x r touch =
        ⊎_elim
        (λ l. over half a area w fine q h v x r touch (l q (lasting r) touch.some touch.time))
        (λ l. under half a area w fine q h v x r touch (l q (lasting r) touch.some touch.time))
        c
