-- An intruder that holds its rate is one that may change it, and one that may do more endangers what one that may do less does.
use Rattle.std.proofs.Common.{◌≡◌, ℕ, zero, suc, ◌*◌, ◌≤◌, refl, arith, List, [], ◌∷◌, ℤ, pos, neg_ℤ, ◌+ℤ◌, ◌*ℤ◌, ◌≤ℤ◌, unsigned_abs, mul-le-mul_right}
use Rattle.std.proofs.lemmas.Int.{ints}
use Rattle.acas_frac.proofs.IntRing.{at, num, ◌⊕◌, ◌⊗◌, ring}
use Rattle.acas_frac.proofs.Orders.{unsigned_abs-le, unsigned_abs-low, unsigned_abs-high}
use Rattle.acas_frac.proofs.SignedProducts.{neg-mul_ℤ}
use Rattle.acas_flight_lemmas.proofs.Rising.{scaled_le}
use Rattle.acas_spec.specs.Model.{ModelData}
use Rattle.acas_flight.specs.Response.{Segment, rate_after, climb, lasting}
use Rattle.acas_flight.specs.State.{State, Interval, IsInside, Box, IsInBox}
use Rattle.acas_flight.specs.Contact.{IsVerticalContact, EndsInContact, IsEndangeredBox}
use Rattle.acas_rulings.specs.Intruder.{Manoeuvre, over, RatesFit, IsFlown}
use Rattle.acas_rulings.specs.Meeting.{IsClose, IsMeeting, IsEndangeredBy}
use Rattle.acas_manoeuvre_lemmas.proofs.Windows.{size-finer}

-- ---- the flight of the time t at a steady rate

abbrev steady : ℕ → List Segment
steady zero = []
steady (suc t) = record { duration = suc t; acceleration = pos 0 } ∷ []

steady-lasting : (t : ℕ) → lasting (steady t) ≡ t
steady-lasting zero = refl
steady-lasting (suc t) = omega arith

steady-climb : (q t : ℕ) (x : ℤ) → climb (x *ℤ pos q) (steady t) ≡ ((pos 2 *ℤ x) *ℤ pos t) *ℤ pos q
steady-climb q zero x = ring (x ∷ pos q ∷ []) (num (pos 0)) (((num (pos 2) ⊗ at 0) ⊗ num (pos 0)) ⊗ at 1) refl
steady-climb q (suc t) x = ring (x ∷ pos q ∷ pos (suc t) ∷ [])
    ((((num (pos 2) ⊗ (at 0 ⊗ at 1)) ⊗ at 2) ⊕ ((num (pos 0) ⊗ at 2) ⊗ at 2)) ⊕ num (pos 0))
    (((num (pos 2) ⊗ at 0) ⊗ at 2) ⊗ at 1)
    refl

steady-flown : (may : Manoeuvre) (v : ℤ) (t : ℕ) → unsigned_abs v ≤ may.rate → IsFlown may v (steady t)
steady-flown may v zero h = tt
steady-flown may v (suc t) h = (record { lasts = omega arith; accel = omega arith; before = h; after = rw (same v (suc t)) h }, tt)
  where
    same : (v : ℤ) (n : ℕ) → v +ℤ (pos 0 *ℤ pos n) ≡ v
    same v n = ring (v ∷ pos n ∷ []) (at 0 ⊕ (num (pos 0) ⊗ at 1)) (at 0) refl

-- a rate of the interval is within the greatest
rate-within : (may : Manoeuvre) (rates : Interval) (q : ℕ) (x : ℤ) → RatesFit may rates → IsInside q rates x → unsigned_abs x ≤ may.rate * q
rate-within may rates q x fit i =
    let least = rw (neg-mul_ℤ (pos may.rate) (pos q)) at (scaled_le (neg_ℤ (pos may.rate)) rates.least q (unsigned_abs-low rates.least may.rate fit.least)) in
    let greatest = scaled_le rates.greatest (pos may.rate) q (unsigned_abs-high rates.greatest may.rate fit.greatest) in
    unsigned_abs-le x (may.rate * q) (line _ _ _ least i.0) (line _ _ _ i.1 greatest)
  where
    line : (a b c : ℤ) → a ≤ℤ b → b ≤ℤ c → a ≤ℤ c
    line a b c h k = omega (arith, ints)

pub steady_danger : (m : ModelData) (box : Box) (a : ℕ) (may : Manoeuvre) → RatesFit may box.intruder → IsEndangeredBox m box a → IsEndangeredBy m a may box
steady_danger m box a may fit e = by e.0 e.1 e.2 e.3
  where
    close : (q t : ℕ) (h x z : ℤ) → IsVerticalContact m.half q h x t z → IsClose m.half q h (climb (x *ℤ pos q) (steady t)) z
    close q t h x z c = rw (steady-climb q t x) c

    by : (q : ℕ) (s : State) (r : List Segment) → EndsInContact m a (IsInBox box) q s r → IsEndangeredBy m a may box
    by q s r c =
        let square : (may.rate * q) * q ≡ may.rate * (q * q) = omega arith in (
          q,
          s,
          r,
          steady (lasting r),
          record {
            some = c.some;
            inside = c.inside;
            meets = c.meets;
            flown = steady-flown (over q may) (s.intruder *ℤ pos q) (lasting r)
                (rw square at (size-finer s.intruder (may.rate * q) q (rate-within may box.intruder q s.intruder fit c.inside.intruder)));
            together = steady-lasting (lasting r);
            horizontal = c.contact.horizontal;
            vertical = close q (lasting r) s.altitude s.intruder (climb (s.own *ℤ pos q) r) c.contact.vertical;
          },
        )

-- ---- one that may do more

flown-more : (may more : Manoeuvre) (v : ℤ) (f : List Segment) → may.accel ≤ more.accel → may.rate ≤ more.rate → IsFlown may v f → IsFlown more v f
flown-more may more v [] h k i = tt
flown-more may more v (s ∷ rest) h k i = (
  record { lasts = i.0.lasts; accel = omega (arith, h, i.0.accel); before = omega (arith, k, i.0.before); after = omega (arith, k, i.0.after) },
  flown-more may more (rate_after v s) rest h k i.1,
)

pub more_danger : (m : ModelData) (box : Box) (a : ℕ) (may more : Manoeuvre) → may.accel ≤ more.accel → may.rate ≤ more.rate → IsEndangeredBy m a may box → IsEndangeredBy m a more box
more_danger m box a may more h k e = by e.0 e.1 e.2 e.3 e.4
  where
    by : (q : ℕ) (s : State) (r f : List Segment) → IsMeeting m a may box q s r f → IsEndangeredBy m a more box
    by q s r f c = (
      q,
      s,
      r,
      f,
      record {
        some = c.some;
        inside = c.inside;
        meets = c.meets;
        flown = flown-more (over q may) (over q more) (s.intruder *ℤ pos q) f (mul-le-mul_right q h) (mul-le-mul_right (q * q) k) c.flown;
        together = c.together;
        horizontal = c.horizontal;
        vertical = c.vertical;
      },
    )
