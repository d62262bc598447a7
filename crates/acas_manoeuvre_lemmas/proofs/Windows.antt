-- A box is endangered by a manoeuvre exactly where its area is during its window.
use Rattle.std.proofs.Common.{◌≡◌, ℕ, ◌*◌, ◌<◌, ◌≤◌, ◌↔◌, refl, sym, ap, ◌∙◌, arith, List, [], ◌∷◌, ℤ, pos, ◌+ℤ◌, ◌-ℤ◌, ◌*ℤ◌, unsigned_abs, mul-pos, mul-le-mul_right}
use Rattle.std.proofs.lemmas.Int.{unsigned_abs-mul}
use Rattle.acas_spec.specs.Model.{ModelData}
use Rattle.acas_frac.proofs.IntRing.{at, ◌⊕◌, ◌⊖◌, ◌⊗◌, ring}
use Rattle.acas_flight_lemmas.proofs.Endangered.{IsInside-finer, IsDuring-finer, scaled-finer, start-finer}
use Rattle.acas_flight_lemmas.proofs.Finer.{climb_finer, lasting_finer, finer_meet}
use Rattle.acas_flight.specs.Response.{Segment, Demand, demand_of, scaled, rate_after, climb, lasting}
use Rattle.acas_flight.specs.State.{State, IsInside, Box}
use Rattle.acas_flight.specs.Contact.{IsHorizontalContact}
use Rattle.acas_flight.specs.Parts.{finer}
use Rattle.acas_flight.specs.Window.{Times, IsWindowOfBox}
use Rattle.acas_flight.specs.Clear.{Area, area_of_box}
use Rattle.acas_rulings.specs.Intruder.{Manoeuvre, over, MayFly, IsFlown}
use Rattle.acas_rulings.specs.Meeting.{IsClose, IsMeeting, IsEndangeredBy, MeetsDuring, IsEndangeredDuringBy}

-- ---- a flight of an intruder in finer numbers

rate-finer : (m : ℕ) (v : ℤ) (s : Segment) → rate_after (v *ℤ pos (m * m)) (record { duration = s.duration * m; acceleration = s.acceleration *ℤ pos m }) ≡ rate_after v s *ℤ pos (m * m)
rate-finer m v s = ring (v ∷ s.acceleration ∷ pos s.duration ∷ pos m ∷ [])
    ((at 0 ⊗ (at 3 ⊗ at 3)) ⊕ ((at 1 ⊗ at 3) ⊗ (at 2 ⊗ at 3)))
    ((at 0 ⊕ (at 1 ⊗ at 2)) ⊗ (at 3 ⊗ at 3))
    refl

pub size-finer : (v : ℤ) (n m : ℕ) → unsigned_abs v ≤ n → unsigned_abs (v *ℤ pos m) ≤ n * m
size-finer v n m h = rw (unsigned_abs-mul v (pos m)) (mul-le-mul_right m h)

may_fly-finer : (m : ℕ) (may : Manoeuvre) (v : ℤ) (s : Segment) → 0 < m → MayFly may v s → MayFly (over m may) (v *ℤ pos (m * m)) (record { duration = s.duration * m; acceleration = s.acceleration *ℤ pos m })
may_fly-finer m may v s p f = record {
  lasts = mul-pos f.lasts p;
  accel = size-finer s.acceleration may.accel m f.accel;
  before = size-finer v may.rate (m * m) f.before;
  after = rw (rate-finer m v s) (size-finer (rate_after v s) may.rate (m * m) f.after);
}

pub flown-finer : (m : ℕ) (may : Manoeuvre) (v : ℤ) (r : List Segment) → 0 < m → IsFlown may v r → IsFlown (over m may) (v *ℤ pos (m * m)) (finer m r)
flown-finer m may v [] p f = tt
flown-finer m may v (s ∷ rest) p f = (may_fly-finer m may v s p f.0, rw (rate-finer m v s) (flown-finer m may (rate_after v s) rest p f.1))

pub over-finer : (q m : ℕ) (may : Manoeuvre) → over m (over q may) ≡ over (q * m) may
over-finer q m may = same (natural may.accel) (rate may.rate)
  where
    natural : (n : ℕ) → n * q * m ≡ n * (q * m)
    natural n = omega arith

    rate : (n : ℕ) → n * (q * q) * (m * m) ≡ n * ((q * m) * (q * m))
    rate n = omega arith

    manoeuvre : ℕ → ℕ → Manoeuvre
    manoeuvre a c = record { accel = a; rate = c }

    same : {a a' c c' : ℕ} → a ≡ a' → c ≡ c' → manoeuvre a c ≡ manoeuvre a' c'
    same e f = rw (e, f) refl

close-finer : (half q m : ℕ) (h y z : ℤ) → IsClose half q h y z → IsClose half (q * m) (h *ℤ pos m) (y *ℤ pos (m * m * m)) (z *ℤ pos (m * m * m))
close-finer half q m h y z c =
    let cube : half * (q * m * (q * m) * (q * m)) ≡ half * (q * q * q) * (m * m * m) = omega arith in
    rw (gap, unsigned_abs-mul (((h *ℤ pos (q * q)) +ℤ y) -ℤ z) (pos (m * m * m)), cube) (mul-le-mul_right (m * m * m) c)
  where
    gap : (((h *ℤ pos m) *ℤ pos ((q * m) * (q * m))) +ℤ (y *ℤ pos (m * m * m))) -ℤ (z *ℤ pos (m * m * m)) ≡ (((h *ℤ pos (q * q)) +ℤ y) -ℤ z) *ℤ pos (m * m * m)
    gap = ring (h ∷ y ∷ z ∷ pos q ∷ pos m ∷ [])
        ((((at 0 ⊗ at 4) ⊗ ((at 3 ⊗ at 4) ⊗ (at 3 ⊗ at 4))) ⊕ (at 1 ⊗ ((at 4 ⊗ at 4) ⊗ at 4))) ⊖ (at 2 ⊗ ((at 4 ⊗ at 4) ⊗ at 4)))
        ((((at 0 ⊗ (at 3 ⊗ at 3)) ⊕ at 1) ⊖ at 2) ⊗ ((at 4 ⊗ at 4) ⊗ at 4))
        refl

-- a meeting in finer numbers
pub meets-finer : (half : ℕ) (a : Demand) (may : Manoeuvre) (area : Area) (w : Times) (q m : ℕ) (h v x : ℤ) (r f : List Segment) → 0 < m →
    MeetsDuring half a may area w q h v x r f → MeetsDuring half a may area w (q * m) (h *ℤ pos m) (v *ℤ pos m) (x *ℤ pos m) (finer m r) (finer m f)
meets-finer half a may area w q m h v x r f p c = record {
  some = mul-pos c.some p;
  altitude = IsInside-finer q m area.altitude h c.altitude;
  own = IsInside-finer q m area.own v c.own;
  intruder = IsInside-finer q m area.intruder x c.intruder;
  time = rw (lasting_finer m r) (IsDuring-finer q m w (lasting r) c.time);
  meets = rw (start-finer q m v, ← scaled-finer q m a) (finer_meet m (scaled q a) (v *ℤ pos q) r p c.meets);
  flown = rw (start-finer q m x, ← over-finer q m may) (flown-finer m (over q may) (x *ℤ pos q) f p c.flown);
  together = lasting_finer m f ∙ ap (λ n. n * m) c.together ∙ sym (lasting_finer m r);
  close = rw (start-finer q m v, start-finer q m x, climb_finer m (v *ℤ pos q) r, climb_finer m (x *ℤ pos q) f) (close-finer half q m h (climb (x *ℤ pos q) f) (climb (v *ℤ pos q) r) c.close);
}

module _ (m : ModelData) (box : Box) (a : ℕ) (may : Manoeuvre) (w : Times) (window : IsWindowOfBox m box.range box.closing w) where
  box-during : IsEndangeredBy m a may box → IsEndangeredDuringBy m.half (demand_of m a) may (area_of_box box) w
  box-during e = by e.0 e.1 e.2 e.3 e.4
    where
      by : (q : ℕ) (s : State) (r f : List Segment) → IsMeeting m a may box q s r f → IsEndangeredDuringBy m.half (demand_of m a) may (area_of_box box) w
      by q s r f c =
          let one : q * 1 ≡ q = omega arith in
          let same : lasting r * 1 ≡ lasting r = omega arith in (
            q,
            s.altitude,
            s.own,
            s.intruder,
            r,
            f,
            record {
              some = c.some;
              altitude = c.inside.altitude;
              own = c.inside.own;
              intruder = c.inside.intruder;
              time = (window.exact q (lasting r) c.some).1 (1, s.range, s.closing, omega arith, rw one c.inside.range, rw one c.inside.closing, rw (one, same) c.horizontal);
              meets = c.meets;
              flown = c.flown;
              together = c.together;
              close = c.vertical;
            },
          )

  during-box : IsEndangeredDuringBy m.half (demand_of m a) may (area_of_box box) w → IsEndangeredBy m a may box
  during-box e = by e.0 e.1 e.2 e.3 e.4 e.5 e.6
    where
      at_times : (q n : ℕ) (range closing h v x : ℤ) (r f : List Segment) → IsInside (q * n) box.range range → IsInside (q * n) box.closing closing →
          IsHorizontalContact m.radius (q * n) range closing (lasting r * n) →
          MeetsDuring m.half (demand_of m a) may (area_of_box box) w (q * n) h v x (finer n r) (finer n f) → IsEndangeredBy m a may box
      at_times q n range closing h v x r f i j k c = (
        q * n,
        record { range = range; closing = closing; altitude = h; own = v; intruder = x },
        finer n r,
        finer n f,
        record {
          some = c.some;
          inside = record { range = i; closing = j; altitude = c.altitude; own = c.own; intruder = c.intruder };
          meets = c.meets;
          flown = c.flown;
          together = c.together;
          horizontal = rw (lasting_finer n r) k;
          vertical = c.close;
        },
      )

      by : (q : ℕ) (h v x : ℤ) (r f : List Segment) → MeetsDuring m.half (demand_of m a) may (area_of_box box) w q h v x r f → IsEndangeredBy m a may box
      by q h v x r f c =
          let s = (window.exact q (lasting r) c.some).0 c.time in
          at_times q s.0 s.1 s.2 (h *ℤ pos s.0) (v *ℤ pos s.0) (x *ℤ pos s.0) r f s.4 s.5 s.6
          (meets-finer m.half (demand_of m a) may (area_of_box box) w q s.0 h v x r f s.3 c)

pub in_window : (m : ModelData) (box : Box) (a : ℕ) (may : Manoeuvre) (w : Times) → IsWindowOfBox m box.range box.closing w →
    IsEndangeredBy m a may box ↔ IsEndangeredDuringBy m.half (demand_of m a) may (area_of_box box) w
in_window m box a may w window = (box-during m box a may w window, during-box m box a may w window)
