-- What horizontal windows and vertical areas say of endangered cells and boxes.
use Rattle.std.proofs.Common.{◌≡◌, ℕ, ◌*◌, ◌<◌, ◌↔◌, refl, arith, List, [], ◌∷◌, ℤ, pos, ◌*ℤ◌, mul-pos, mul-le-mul_right}
use Rattle.std.proofs.lemmas.Int.{unsigned_abs-mul}
use Rattle.acas_spec.specs.Model.{ModelData}
use Rattle.acas_frac.proofs.IntRing.{at, num, ◌⊕◌, ◌⊖◌, ◌⊗◌, ring, mul_pos_mul_ℤ}
use Rattle.acas_flight_lemmas.proofs.Rising.{scaled_le}
use Rattle.acas_flight_lemmas.proofs.Finer.{climb_finer, lasting_finer, finer_meet}
use Rattle.acas_flight.specs.Response.{Segment, Demand, demand_of, scaled, climb, lasting}
use Rattle.acas_flight.specs.State.{State, Interval, IsInside, Box, IsInCell, IsInBox}
use Rattle.acas_flight.specs.Contact.{vertical_separation, IsHorizontalContact, IsVerticalContact, IsEndangeredCell, IsEndangeredBox, EndsInContact}
use Rattle.acas_flight.specs.Parts.{finer}
use Rattle.acas_flight.specs.Window.{Times, IsDuring, IsWindowOfCell, IsWindowOfBox}
use Rattle.acas_flight.specs.Clear.{Area, area_of_cell, area_of_box, EndsInVerticalContact, IsEndangeredDuring}

-- ---- a flight in finer numbers ends where it ends

pub IsInside-finer : (q m : ℕ) (s : Interval) (n : ℤ) → IsInside q s n → IsInside (q * m) s (n *ℤ pos m)
IsInside-finer q m s n i = (
  rw (mul_pos_mul_ℤ s.least q m) (scaled_le (s.least *ℤ pos q) n m i.0),
  rw (mul_pos_mul_ℤ s.greatest q m) (scaled_le n (s.greatest *ℤ pos q) m i.1),
)

pub IsDuring-finer : (q m : ℕ) (w : Times) (t : ℕ) → IsDuring q w t → IsDuring (q * m) w (t * m)
IsDuring-finer q m w t d = (
  rw (mul_pos_mul_ℤ w.from.num q m, moved t w.from.den m) (scaled_le (w.from.num *ℤ pos q) (pos (t * w.from.den)) m d.0),
  rw (mul_pos_mul_ℤ w.to.num q m, moved t w.to.den m) (scaled_le (pos (t * w.to.den)) (w.to.num *ℤ pos q) m d.1),
)
  where
    moved : (t d m : ℕ) → pos ((t * m) * d) ≡ pos (t * d) *ℤ pos m
    moved t d m = ring (pos t ∷ pos d ∷ pos m ∷ []) ((at 0 ⊗ at 2) ⊗ at 1) ((at 0 ⊗ at 1) ⊗ at 2) refl

pub scaled-finer : (q m : ℕ) (a : Demand) → scaled m (scaled q a) ≡ scaled (q * m) a
scaled-finer q m a = same (rate a.lo) (rate a.hi) (natural a.pull) (natural a.limit) (natural a.delay)
  where
    rate : (z : ℤ) → (z *ℤ pos (q * q)) *ℤ pos (m * m) ≡ z *ℤ pos ((q * m) * (q * m))
    rate z = ring (z ∷ pos q ∷ pos m ∷ []) ((at 0 ⊗ (at 1 ⊗ at 1)) ⊗ (at 2 ⊗ at 2)) (at 0 ⊗ ((at 1 ⊗ at 2) ⊗ (at 1 ⊗ at 2))) refl

    natural : (n : ℕ) → n * q * m ≡ n * (q * m)
    natural n = omega arith

    demand : ℤ → ℤ → ℕ → ℕ → ℕ → Demand
    demand lo hi pull limit delay = record { lo = lo; hi = hi; pull = pull; limit = limit; delay = delay }

    same : {lo lo' hi hi' : ℤ} {p p' l l' d d' : ℕ} → lo ≡ lo' → hi ≡ hi' → p ≡ p' → l ≡ l' → d ≡ d' → demand lo hi p l d ≡ demand lo' hi' p' l' d'
    same e f g h i = rw (e, f, g, h, i) refl

IsVerticalContact-finer : (half q m : ℕ) (h x : ℤ) (t : ℕ) (z : ℤ) → IsVerticalContact half q h x t z →
    IsVerticalContact half (q * m) (h *ℤ pos m) (x *ℤ pos m) (t * m) (z *ℤ pos (m * m * m))
IsVerticalContact-finer half q m h x t z c =
    let cube : half * (q * m * (q * m) * (q * m)) ≡ half * (q * q * q) * (m * m * m) = omega arith in
    rw (gap, unsigned_abs-mul (vertical_separation q h x t z) (pos (m * m * m)), cube) (mul-le-mul_right (m * m * m) c)
  where
    gap : vertical_separation (q * m) (h *ℤ pos m) (x *ℤ pos m) (t * m) (z *ℤ pos (m * m * m)) ≡ vertical_separation q h x t z *ℤ pos (m * m * m)
    gap =
        ring (h ∷ x ∷ z ∷ pos q ∷ pos m ∷ pos t ∷ [])
        ((((at 0 ⊗ at 4) ⊗ ((at 3 ⊗ at 4) ⊗ (at 3 ⊗ at 4))) ⊕ (((num (pos 2) ⊗ (at 1 ⊗ at 4)) ⊗ (at 5 ⊗ at 4)) ⊗ (at 3 ⊗ at 4))) ⊖ (at 2 ⊗ ((at 4 ⊗ at 4) ⊗ at 4)))
        ((((at 0 ⊗ (at 3 ⊗ at 3)) ⊕ (((num (pos 2) ⊗ at 1) ⊗ at 5) ⊗ at 3)) ⊖ at 2) ⊗ ((at 4 ⊗ at 4) ⊗ at 4))
        refl

-- a start rate in finer numbers
pub start-finer : (q m : ℕ) (v : ℤ) → (v *ℤ pos m) *ℤ pos (q * m) ≡ (v *ℤ pos q) *ℤ pos (m * m)
start-finer q m v = ring (v ∷ pos q ∷ pos m ∷ []) ((at 0 ⊗ at 2) ⊗ (at 1 ⊗ at 2)) ((at 0 ⊗ at 1) ⊗ (at 2 ⊗ at 2)) refl

pub EndsInVerticalContact-finer : (half : ℕ) (a : Demand) (area : Area) (w : Times) (q m : ℕ) (h v x : ℤ) (r : List Segment) → 0 < m →
    EndsInVerticalContact half a area w q h v x r → EndsInVerticalContact half a area w (q * m) (h *ℤ pos m) (v *ℤ pos m) (x *ℤ pos m) (finer m r)
EndsInVerticalContact-finer half a area w q m h v x r p f = record {
  some = mul-pos f.some p;
  altitude = IsInside-finer q m area.altitude h f.altitude;
  own = IsInside-finer q m area.own v f.own;
  intruder = IsInside-finer q m area.intruder x f.intruder;
  time = rw (lasting_finer m r) (IsDuring-finer q m w (lasting r) f.time);
  meets = rw (start-finer q m v, ← scaled-finer q m a) (finer_meet m (scaled q a) (v *ℤ pos q) r p f.meets);
  contact = rw (lasting_finer m r, start-finer q m v, climb_finer m (v *ℤ pos q) r) (IsVerticalContact-finer half q m h x (lasting r) (climb (v *ℤ pos q) r) f.contact);
}

-- ---- cells

module _ (m : ModelData) (n i j k a : ℕ) (w : Times) (window : IsWindowOfCell m n w) where
  cell_during : IsEndangeredCell m n i j k a → IsEndangeredDuring m.half (demand_of m a) (area_of_cell m i j k) w
  cell_during e = by e.0 e.1 e.2 e.3
    where
      by : (q : ℕ) (s : State) (r : List Segment) → EndsInContact m a (IsInCell m n i j k) q s r → IsEndangeredDuring m.half (demand_of m a) (area_of_cell m i j k) w
      by q s r f = (
        q,
        s.altitude,
        s.own,
        s.intruder,
        r,
        record {
          some = f.some;
          altitude = f.inside.altitude;
          own = f.inside.own;
          intruder = f.inside.intruder;
          time = (window.exact q (lasting r) f.some).1 (s.range, s.closing, f.inside.away, f.contact.horizontal);
          meets = f.meets;
          contact = f.contact.vertical;
        },
      )

  during_cell : IsEndangeredDuring m.half (demand_of m a) (area_of_cell m i j k) w → IsEndangeredCell m n i j k a
  during_cell e = by e.0 e.1 e.2 e.3 e.4 e.5
    where
      by : (q : ℕ) (h v x : ℤ) (r : List Segment) → EndsInVerticalContact m.half (demand_of m a) (area_of_cell m i j k) w q h v x r → IsEndangeredCell m n i j k a
      by q h v x r f =
          let c = (window.exact q (lasting r) f.some).0 f.time in (
            q,
            record { range = c.0; closing = c.1; altitude = h; own = v; intruder = x },
            r,
            record {
              some = f.some;
              inside = record { away = c.2; altitude = f.altitude; own = f.own; intruder = f.intruder };
              meets = f.meets;
              contact = record { horizontal = c.3; vertical = f.contact };
            },
          )

pub endangered_cell : (m : ModelData) (n i j k a : ℕ) (w : Times) → IsWindowOfCell m n w →
    IsEndangeredCell m n i j k a ↔ IsEndangeredDuring m.half (demand_of m a) (area_of_cell m i j k) w
endangered_cell m n i j k a w window = (cell_during m n i j k a w window, during_cell m n i j k a w window)

-- ---- boxes

module _ (m : ModelData) (box : Box) (a : ℕ) (w : Times) (window : IsWindowOfBox m box.range box.closing w) where
  box_during : IsEndangeredBox m box a → IsEndangeredDuring m.half (demand_of m a) (area_of_box box) w
  box_during e = by e.0 e.1 e.2 e.3
    where
      by : (q : ℕ) (s : State) (r : List Segment) → EndsInContact m a (IsInBox box) q s r → IsEndangeredDuring m.half (demand_of m a) (area_of_box box) w
      by q s r f =
          let one : q * 1 ≡ q = omega arith in
          let same : lasting r * 1 ≡ lasting r = omega arith in (
            q,
            s.altitude,
            s.own,
            s.intruder,
            r,
            record {
              some = f.some;
              altitude = f.inside.altitude;
              own = f.inside.own;
              intruder = f.inside.intruder;
              time = (window.exact q (lasting r) f.some).1 (1, s.range, s.closing, omega arith, rw one f.inside.range, rw one f.inside.closing, rw (one, same) f.contact.horizontal);
              meets = f.meets;
              contact = f.contact.vertical;
            },
          )

  during_box : IsEndangeredDuring m.half (demand_of m a) (area_of_box box) w → IsEndangeredBox m box a
  during_box e = by e.0 e.1 e.2 e.3 e.4 e.5
    where
      at_times : (q n : ℕ) (range closing h v x : ℤ) (r : List Segment) → IsInside (q * n) box.range range → IsInside (q * n) box.closing closing →
          IsHorizontalContact m.radius (q * n) range closing (lasting r * n) →
          EndsInVerticalContact m.half (demand_of m a) (area_of_box box) w (q * n) h v x (finer n r) → IsEndangeredBox m box a
      at_times q n range closing h v x r i j c f = (
        q * n,
        record { range = range; closing = closing; altitude = h; own = v; intruder = x },
        finer n r,
        record {
          some = f.some;
          inside = record { range = i; closing = j; altitude = f.altitude; own = f.own; intruder = f.intruder };
          meets = f.meets;
          contact = record { horizontal = rw (lasting_finer n r) c; vertical = f.contact };
        },
      )

      by : (q : ℕ) (h v x : ℤ) (r : List Segment) → EndsInVerticalContact m.half (demand_of m a) (area_of_box box) w q h v x r → IsEndangeredBox m box a
      by q h v x r f =
          let c = (window.exact q (lasting r) f.some).0 f.time in
          at_times q c.0 c.1 c.2 (h *ℤ pos c.0) (v *ℤ pos c.0) (x *ℤ pos c.0) r c.4 c.5 c.6
          (EndsInVerticalContact-finer m.half (demand_of m a) (area_of_box box) w q c.0 h v x r c.3 f)

pub endangered_box : (m : ModelData) (box : Box) (a : ℕ) (w : Times) → IsWindowOfBox m box.range box.closing w →
    IsEndangeredBox m box a ↔ IsEndangeredDuring m.half (demand_of m a) (area_of_box box) w
endangered_box m box a w window = (box_during m box a w window, during_box m box a w window)
