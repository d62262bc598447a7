-- A contact after the second response is a contact of it from the state that is reached: of the area that is reached, or of a cell.
use Rattle.std.proofs.Common.{◌≡◌, ℕ, ◌+◌, ◌-◌, ◌*◌, ◌<◌, arith, List, pos, ◌-ℤ◌, ◌*ℤ◌, mul-pos}
use Rattle.acas_spec.specs.Limits.{IsModel}
use Rattle.acas_spec.specs.Model.{ModelData}
use Rattle.acas_flight_lemmas.proofs.Models.{demand_can_be_met}
use Rattle.acas_flight_lemmas.proofs.Safe.{clear_areas_are_safe}
use Rattle.acas_flight_lemmas.proofs.Endangered.{IsDuring-finer, IsInside-finer}
use Rattle.acas_flight_lemmas.proofs.Finer.{lasting_finer}
use Rattle.acas_flight.specs.Clear.{EndsInVerticalContact}
use Rattle.acas_flight.specs.Contact.{IsEndangeredCell, vertical_separation}
use Rattle.acas_flight.specs.Parts.{finer}
use Rattle.acas_flight.specs.Response.{Segment, climb, demand_of}
use Rattle.acas_flight.specs.State.{IsInCell, State}
use Rattle.acas_flight.specs.Window.{IsWindowOfCell, Times}
use Rattle.acas_cells.specs.Cells.{Cell}
use Rattle.acas_safeable.specs.Outlooks.{IsShown}
use Rattle.acas_safeable.specs.Reached.{reached_area}
use Rattle.acas_safeable.specs.Safe.{EndsInContactLater, IsSafeBy, rate_left}
use Rattle.acas_safeable.proofs.Follow.{cell_follows, horizontal_finer, later_horizontal, later_meets, later_vertical}
use Rattle.acas_safeable.proofs.Reaches.{is_reached}

module _ (m : ModelData) (n i j k advisory q : ℕ) (s : State) (first second : List Segment) (is : IsModel m) where
  -- a flight that ends in contact later endangers the area that is reached, in the window of a second later
  ends_there : (w : Times) → IsWindowOfCell m n w → EndsInContactLater m (n + 1) i j k advisory q s first second →
      EndsInVerticalContact m.half (demand_of m advisory) (reached_area m i j k) w (q * q * q)
      (vertical_separation q s.altitude s.intruder q (climb (s.own *ℤ pos q) first)) (rate_left (s.own *ℤ pos q) first *ℤ pos q) (s.intruder *ℤ pos (q * q)) (finer (q * q) second)
  ends_there w window later =
      let v = s.own *ℤ pos q in
      let there = is_reached m (n + 1) i j k q s first is later.some later.inside later.clear later.one_second in
      let away = cell_follows m n q s.range s.closing is later.some later.inside.away in
      let at_time = (window.exact q _ later.some).1 (s.range -ℤ s.closing, s.closing, away, later_horizontal q later.some v first second later.one_second m.radius s.range s.closing later.contact.horizontal) in
      let cube : q * (q * q) ≡ q * q * q = omega arith in
      record {
        some = mul-pos (mul-pos later.some later.some) later.some;
        altitude = there.0;
        own = IsInside-finer (q * q) q (reached_area m i j k).own (rate_left v first) there.1;
        intruder = rw cube at (IsInside-finer q (q * q) (reached_area m i j k).intruder s.intruder there.2);
        time = rw (lasting_finer (q * q) second, ← cube) (IsDuring-finer q (q * q) w _ at_time);
        meets = later_meets q later.some v first second later.one_second (demand_of m advisory) later.meets;
        contact = later_vertical q later.some v first second later.one_second m.half s.altitude s.intruder later.contact.vertical;
      }

  -- from a state like the one that is reached, over q^3, in a cell of a second less, the flight of the second response ends in contact
  pub ends_in_cell : (i' j' k' : ℕ) (next : State) → EndsInContactLater m (n + 1) i j k advisory q s first second →
      next.range ≡ (s.range -ℤ s.closing) *ℤ pos (q * q) → next.closing ≡ s.closing *ℤ pos (q * q) →
      next.altitude ≡ vertical_separation q s.altitude s.intruder q (climb (s.own *ℤ pos q) first) → next.own ≡ rate_left (s.own *ℤ pos q) first *ℤ pos q →
      next.intruder ≡ s.intruder *ℤ pos (q * q) → IsInCell m n i' j' k' (q * q * q) next → IsEndangeredCell m n i' j' k' advisory
  ends_in_cell i' j' k' next later er ec eh ev ex inside =
      let v = s.own *ℤ pos q in
      let near = later_horizontal q later.some v first second later.one_second m.radius s.range s.closing later.contact.horizontal in (
        q * q * q,
        next,
        finer (q * q) second,
        record {
          some = mul-pos (mul-pos later.some later.some) later.some;
          inside = inside;
          meets = rw ev (later_meets q later.some v first second later.one_second (demand_of m advisory) later.meets);
          contact = record {
            horizontal = rw (er, ec, lasting_finer (q * q) second) (horizontal_finer m.radius q _ (s.range -ℤ s.closing) s.closing near);
            vertical = rw (eh, ex, ev) (later_vertical q later.some v first second later.one_second m.half s.altitude s.intruder later.contact.vertical);
          };
        },
      )

-- a cell is safe by each advisory that is shown
pub shown_is_safe : (m : ModelData) (c : Cell) (advisory : ℕ) → IsModel m → 0 < c.n → advisory < m.grid.advisories → IsShown m c advisory → IsSafeBy m c.n c.i c.j c.k advisory
shown_is_safe m c advisory is later within shown =
    let n : (c.n - 1) + 1 ≡ c.n = omega arith in
    record {
      never = λ q s first second ends.
          let again = rw (← n) at ends in
          clear_areas_are_safe m.half (demand_of m advisory) (reached_area m c.i c.j c.k) shown.window (demand_can_be_met m advisory is within) shown.clear
          (q * q * q, _, _, _, finer (q * q) second, ends_there m (c.n - 1) c.i c.j c.k advisory q s first second is shown.window shown.is_window again);
    }
