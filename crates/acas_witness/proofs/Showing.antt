-- A flight that is found in an area, with a range and a speed, shows danger of contact of the cell or box.
use Rattle.std.proofs.Common.{◌≡◌, ℕ, ◌*◌, ◌<◌, List, [], ◌∷◌, ℤ, pos, ◌*ℤ◌, refl, subst, sym, mul-pos}
use Rattle.std.specs.List.{All}
use Rattle.std.proofs.lemmas.List.Elements.{All-cons}
use Rattle.acas_spec.specs.Model.{ModelData}
use Rattle.acas_frac.specs.Fraction.{IsReduced}
use Rattle.acas_flight.specs.Response.{Segment, demand_of, lasting}
use Rattle.acas_flight.specs.State.{Box, IsInBox, IsInCell}
use Rattle.acas_flight.specs.Parts.{finer}
use Rattle.acas_flight.specs.Contact.{IsEndangeredBox, IsEndangeredCell}
use Rattle.acas_flight.specs.Window.{IsWindowOfBox, IsWindowOfCell, Times}
use Rattle.acas_flight.specs.Clear.{Area, EndsInVerticalContact, area_of_box, area_of_cell}
use Rattle.acas_flight.specs.Values.{IsOver}
use Rattle.acas_frac.proofs.IntRing.{at, ◌⊗◌, ring}
use Rattle.acas_flight_lemmas.proofs.Finer.{lasting_finer}
use Rattle.acas_flight_lemmas.proofs.Endangered.{EndsInVerticalContact-finer}
use Rattle.acas_rulings.specs.Printed.{AreParts, flight_fractions, fractions_of, segments_of}
use Rattle.acas_rulings.specs.Ranges.{IsBoxesRange, IsCellsRange, IsContactOfBox, IsContactOfCell}
use Rattle.acas_rulings.specs.Witness.{IsFlightInContact, IsWitnessOf}
use Rattle.acas_rulings.specs.declared.flight.Witness.{Witness}
use Rattle.acas_rulings.specs.declared.flight.Flight as printed
use Rattle.acas_areas.proofs.Finer.{IsOver-finer, over_left, over_right}
use Rattle.acas_rulings.proofs.Parts.{AreParts-finer}
use Rattle.acas_rulings.specs.Boxes.{AuditedBox}
use Rattle.acas_rulings.specs.Rulings.{IsReported, IsWitnessOfBox, IsWitnessOfCell, ShowsDanger}
use Rattle.acas_cells.specs.declared.name.CellName.{CellName}

-- ---- one denominator for the flight, the range and the speed

-- the flight over a denominator over which the range and the speed are whole too
record IsFine (m : ModelData) (advisory : ℕ) (area : Area) (times : Times) (w : Witness) : Type 0 where
  pub q : ℕ
  pub some : 0 < q
  pub range : ℤ
  pub closing : ℤ
  pub altitude : ℤ
  pub own : ℤ
  pub intruder : ℤ
  pub response : List Segment
  pub range_over : IsOver q range w.range
  pub closing_over : IsOver q closing w.speed
  pub altitude_over : altitude ≡ w.flight.h *ℤ pos q
  pub own_over : IsOver q own w.flight.v0
  pub intruder_over : IsOver q intruder w.flight.v1
  pub time_over : IsOver q (pos (lasting response)) w.flight.time
  pub flown : AreParts q response (segments_of w.flight)
  pub contact : EndsInVerticalContact m.half (demand_of m advisory) area times q altitude own intruder response
  pub reduced : All IsReduced (fractions_of w)

fine_from : (m : ModelData) (advisory : ℕ) (area : Area) (times : Times) (w : Witness) → IsReduced w.range → IsReduced w.speed →
    IsFlightInContact m.half (demand_of m advisory) area times w.flight → IsFine m advisory area times w
fine_from m advisory area times w range speed f =
    let n = w.range.den * w.speed.den in
    let positive : 0 < n = mul-pos range.some speed.some in
    let finer_contact = EndsInVerticalContact-finer m.half (demand_of m advisory) area times f.q n f.altitude f.own f.intruder f.response positive f.contact in
    record {
      q = f.q * n;
      some = finer_contact.some;
      range = w.range.num *ℤ pos (f.q * w.speed.den);
      closing = w.speed.num *ℤ pos (f.q * w.range.den);
      altitude = f.altitude *ℤ pos n;
      own = f.own *ℤ pos n;
      intruder = f.intruder *ℤ pos n;
      response = finer n f.response;
      range_over = over_left f.q w.speed.den w.range;
      closing_over = over_right f.q w.range.den w.speed;
      altitude_over = rw f.altitude_over (ring (w.flight.h ∷ pos f.q ∷ pos n ∷ []) ((at 0 ⊗ at 1) ⊗ at 2) (at 0 ⊗ (at 1 ⊗ at 2)) refl);
      own_over = IsOver-finer w.flight.v0 f.q n f.own f.own_over;
      intruder_over = IsOver-finer w.flight.v1 f.q n f.intruder f.intruder_over;
      time_over = rw (lasting_finer n f.response) (IsOver-finer w.flight.time f.q n (pos (lasting f.response)) f.time_over);
      flown = AreParts-finer f.q n f.response (segments_of w.flight) f.flown;
      contact = finer_contact;
      reduced = All-cons IsReduced w.range (w.speed ∷ flight_fractions w.flight) range (All-cons IsReduced w.speed (flight_fractions w.flight) speed f.reduced);
    }

-- ---- cells and boxes

pub shown_of_cell : (m : ModelData) (n i j k advisory : ℕ) (times : Times) (w : Witness) → IsReduced w.range → IsReduced w.speed →
    IsFlightInContact m.half (demand_of m advisory) (area_of_cell m i j k) times w.flight → IsContactOfCell m n w.flight.time w.range w.speed →
    ShowsDanger m advisory (IsInCell m n i j k) w
shown_of_cell m n i j k advisory times w range speed flight near =
    let f = fine_from m advisory (area_of_cell m i j k) times w range speed flight in
    let t = lasting f.response in
    record {
      q = f.q;
      state = record { range = f.range; closing = f.closing; altitude = f.altitude; own = f.own; intruder = f.intruder };
      response = f.response;
      range = f.range_over;
      closing = f.closing_over;
      altitude = f.altitude_over;
      own = f.own_over;
      intruder = f.intruder_over;
      time = f.time_over;
      flown = f.flown;
      contact = record {
        some = f.some;
        inside = record {
          away = near.away f.q t f.range f.closing f.some f.time_over f.range_over f.closing_over;
          altitude = f.contact.altitude;
          own = f.contact.own;
          intruder = f.contact.intruder;
        };
        meets = f.contact.meets;
        contact = record { horizontal = near.contact f.q t f.range f.closing f.some f.time_over f.range_over f.closing_over; vertical = f.contact.contact };
      };
      reduced = f.reduced;
    }

pub shown_of_box : (m : ModelData) (box : Box) (advisory : ℕ) (times : Times) (w : Witness) → IsReduced w.range → IsReduced w.speed →
    IsFlightInContact m.half (demand_of m advisory) (area_of_box box) times w.flight → IsContactOfBox m.radius box.range box.closing w.flight.time w.range w.speed →
    ShowsDanger m advisory (IsInBox box) w
shown_of_box m box advisory times w range speed flight near =
    let f = fine_from m advisory (area_of_box box) times w range speed flight in
    let t = lasting f.response in
    record {
      q = f.q;
      state = record { range = f.range; closing = f.closing; altitude = f.altitude; own = f.own; intruder = f.intruder };
      response = f.response;
      range = f.range_over;
      closing = f.closing_over;
      altitude = f.altitude_over;
      own = f.own_over;
      intruder = f.intruder_over;
      time = f.time_over;
      flown = f.flown;
      contact = record {
        some = f.some;
        inside = record {
          range = near.range_in f.q f.range f.some f.range_over;
          closing = near.speed_in f.q f.closing f.some f.closing_over;
          altitude = f.contact.altitude;
          own = f.contact.own;
          intruder = f.contact.intruder;
        };
        meets = f.contact.meets;
        contact = record { horizontal = near.contact f.q t f.range f.closing f.some f.time_over f.range_over f.closing_over; vertical = f.contact.contact };
      };
      reduced = f.reduced;
    }

-- ---- reports

pub reported_cell : (m : ModelData) (name : CellName) (area : Area) (times : Times) (flight : printed.Flight) (w : Witness) →
    area ≡ area_of_cell m name.i name.j name.k → IsWindowOfCell m name.n times →
    IsEndangeredCell m name.n name.i name.j name.k name.advice →
    IsWitnessOf m.half (demand_of m name.advice) area times flight → IsFlightInContact m.half (demand_of m name.advice) area times flight →
    w.flight ≡ flight → IsCellsRange m name.n flight.time w.range w.speed → IsContactOfCell m name.n flight.time w.range w.speed →
    IsReduced w.range → IsReduced w.speed →
    IsReported m name.advice (IsInCell m name.n name.i name.j name.k) (IsWitnessOfCell m name) w
reported_cell m name area times flight w same window danger rule contact carried range near range_reduced speed_reduced =
    let own_rule = subst (λ (f : printed.Flight). IsWitnessOf m.half (demand_of m name.advice) area times f) (sym carried) rule in
    let own_contact = subst (λ (f : printed.Flight). IsFlightInContact m.half (demand_of m name.advice) area times f) (sym carried) contact in
    record {
      endangered = danger;
      rule = record {
        times = times;
        window = window;
        flight = subst (λ (a : Area). IsWitnessOf m.half (demand_of m name.advice) a times w.flight) same own_rule;
        range = subst (λ (f : printed.Flight). IsCellsRange m name.n f.time w.range w.speed) (sym carried) range;
      };
      shown = shown_of_cell m name.n name.i name.j name.k name.advice times w range_reduced speed_reduced
          (subst (λ (a : Area). IsFlightInContact m.half (demand_of m name.advice) a times w.flight) same own_contact)
          (subst (λ (f : printed.Flight). IsContactOfCell m name.n f.time w.range w.speed) (sym carried) near);
    }

pub reported_box : (m : ModelData) (b : AuditedBox) (times : Times) (flight : printed.Flight) (w : Witness) →
    IsWindowOfBox m b.states.range b.states.closing times → IsEndangeredBox m b.states b.advisory →
    IsWitnessOf m.half (demand_of m b.advisory) (area_of_box b.states) times flight →
    IsFlightInContact m.half (demand_of m b.advisory) (area_of_box b.states) times flight →
    w.flight ≡ flight → IsBoxesRange m.radius b.states.range b.states.closing flight.time w.range w.speed →
    IsContactOfBox m.radius b.states.range b.states.closing flight.time w.range w.speed →
    IsReduced w.range → IsReduced w.speed →
    IsReported m b.advisory (IsInBox b.states) (IsWitnessOfBox m b) w
reported_box m b times flight w window danger rule contact carried range near range_reduced speed_reduced = record {
  endangered = danger;
  rule = record {
    times = times;
    window = window;
    flight = subst (λ (f : printed.Flight). IsWitnessOf m.half (demand_of m b.advisory) (area_of_box b.states) times f) (sym carried) rule;
    range = subst (λ (f : printed.Flight). IsBoxesRange m.radius b.states.range b.states.closing f.time w.range w.speed) (sym carried) range;
  };
  shown = shown_of_box m b.states b.advisory times w range_reduced speed_reduced
      (subst (λ (f : printed.Flight). IsFlightInContact m.half (demand_of m b.advisory) (area_of_box b.states) times f) (sym carried) contact)
      (subst (λ (f : printed.Flight). IsContactOfBox m.radius b.states.range b.states.closing f.time w.range w.speed) (sym carried) near);
}
