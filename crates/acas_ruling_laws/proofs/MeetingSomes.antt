-- Each box has a verdict against an intruder that may change its rate.
use Rattle.std.proofs.Common.{ℕ, ◌*◌, ◌<◌, ◌≤◌, inl, inr, arith}
use Rattle.std.proofs.lemmas.List.Elements.{recursion_from_All}
use Rattle.acas_spec.specs.Model.{ModelData}
use Rattle.acas_spec.specs.Limits.{IsModel}
use Rattle.acas_frac.specs.Fraction.{Fraction, IsReduced}
use Rattle.acas_flight.specs.Response.{demand_of}
use Rattle.acas_flight.specs.Clear.{Area, area_of_box}
use Rattle.acas_flight.specs.Window.{IsWindowOfBox, Times}
use Rattle.acas_flight_lemmas.proofs.Models.{demand_can_be_met}
use Rattle.acas_areas.specs.Limits.{IsArea}
use Rattle.acas_flight_windows.proofs.EachWindow.{window_of_box}
use Rattle.acas_areas.specs.Value.{thinnest}
use Rattle.acas_areas.specs.Search.{IsMoment, IsTimed, fastest, unit}
use Rattle.acas_pass_lemmas.proofs.Neighbours.{unit_some}
use Rattle.acas_rulings.specs.Boxes.{AuditedBox, IsBoxOf}
use Rattle.acas_rulings.specs.Printed.{flight_fractions}
use Rattle.acas_rulings.specs.Intruder.{Manoeuvre, RatesFit}
use Rattle.acas_rulings.specs.Race.{high_race, low_race, turned}
use Rattle.acas_rulings.specs.Apart.{IsApart}
use Rattle.acas_manoeuvre_lemmas.proofs.Safe.{apart-safe}
use Rattle.acas_manoeuvre_lemmas.proofs.Windows.{in_window}
use Rattle.acas_rulings.specs.declared.meeting.Meeting.{Meeting}
use Rattle.acas_rulings.specs.declared.verdict.MeetVerdict.{MeetVerdict}
use Rattle.acas_rulings.specs.declared.verdict.MeetVerdict.TheVariants.{Certified, Reported}
use Rattle.acas_rulings.specs.Hunt.{IsHunt, accel}
use Rattle.acas_rulings.specs.PrintedMeetings.{PrintsCourse}
use Rattle.acas_rulings.specs.Verdicts.{IsMeetVerdict, IsMet, hunt_between}
use Rattle.acas_hunt_lemmas.proofs.Founds.{finds, found_course, some_pull}
use Rattle.acas_hunt_lemmas.proofs.Prints.{printed-contact}
use Rattle.acas_hunt_lemmas.proofs.Showing.{shown-endangers, shows-meeting}
use Rattle.acas_hunt_lemmas.proofs.Somes.{accel_some}
use Rattle.acas_hunt_lemmas.proofs.Verdicts.{can-meet}
use Rattle.acas_ruling_laws.proofs.Ranges.{range_of_box}
use Rattle.acas_ruling_laws.proofs.RulingSomes.{AreInOrder, flyable_box, in_order_or_empty}
use Rattle.acas_ruling_laws.proofs.Somes.{IsFlyable, search_of}
use Rattle.acas_ruling_laws.proofs.LeastTimes.{HasLeastTime, apart_or_not, high_time, low_time}
use Rattle.acas_ruling_laws.proofs.PrintedCourses.{course_reduced, printed_course, time_in}

-- the hunt of an area between two times
hunt_of : (m : ModelData) (advisory : ℕ) (may : Manoeuvre) (area : Area) (low high : Fraction) → IsModel m → advisory < m.grid.advisories → IsFlyable area → 0 < may.accel → may.rate ≤ fastest → RatesFit may area.intruder →
    IsMoment low → IsMoment high → IsHunt (hunt_between (demand_of m advisory) may area low high)
hunt_of m advisory may area low high is known flyable some fast fit l h = record {
  search = search_of m advisory area low high is known flyable l h;
  some = some;
  rate = fast;
  least = fit.least;
  greatest = fit.greatest;
}

module _ (m : ModelData) (may : Manoeuvre) (b : AuditedBox) (is : IsModel m) (of : IsBoxOf m b) (fits : IsArea (area_of_box b.states)) (some : 0 < may.accel) (fast : may.rate ≤ fastest) (fit : RatesFit may b.states.intruder)
    (order : AreInOrder b.states) where
  -- the meeting of a box that is not apart
  met : (w : Times) → IsWindowOfBox m b.states.range b.states.closing w →
      (low : HasLeastTime (low_race (demand_of m b.advisory) may (area_of_box b.states)) w) (high : HasLeastTime (turned (high_race (demand_of m b.advisory) may (area_of_box b.states))) w) →
      ¬ IsApart m.half (demand_of m b.advisory) may (area_of_box b.states) w → (x : Meeting) × IsMet m may b x
  met w window low high near =
      let thick : thinnest ≤ 2 * m.half = omega (arith, is.some_half) in
      let h = hunt_between (demand_of m b.advisory) may (area_of_box b.states) low.time high.time in
      let hunt : IsHunt h = hunt_of m b.advisory may (area_of_box b.states) low.time high.time is of.advisory (flyable_box b.states fits order) some fast fit low.moment high.moment in
      let timed : IsTimed h.search w = record { low_after = low.extreme.first.after; low_before = low.extreme.first.before; high_after = high.extreme.first.after; high_before = high.extreme.first.before } in
      let can = can-meet h hunt m.half w low.extreme.first high.extreme.first near in
      let c = finds m.half h hunt can in
      let from = found_course h hunt w timed m.half thick can c.0 c.1 in
      let p = unit_some h.search hunt.search in
      let f = printed_course (unit h.search) (accel h) c.0 p (accel_some h hunt) (some_pull h hunt w timed c.0 from.0) in
      let time = time_in w f.flight.time (unit h.search) c.0.own.time p (recursion_from_All IsReduced (flight_fractions f.flight) f.flight_reduced).0 f.own.time from.0.own.time in
      let r = range_of_box m b.states.range b.states.closing w f.flight.time of.flown order.range order.closing window time in
      let x : Meeting = record { witness = record { range = r.range; speed = r.speed; flight = f.flight }; intruder_first = f.first; intruder_second = f.second } in
      let prints : PrintsCourse (unit h.search) (accel h) c.0 x = record { own = f.own; against = f.against } in
      let contact = printed-contact m.half h w c.0 x thick hunt timed can c.1 prints (course_reduced x f.flight_reduced f.against_reduced) in
      let shown = shows-meeting m may b w x contact r.contact r.range_reduced r.speed_reduced in (
        x,
        record {
          endangered = shown-endangers m may b x shown;
          rule = record {
            times = w;
            window = window;
            of_area = record {
              low = low.time;
              high = high.time;
              at_low = low.extreme;
              at_high = high.extreme;
              course = c.0;
              found = c.1;
              prints = prints;
            };
            range = r.is;
          };
          shown = shown;
        },
      )

  ordered-some : (v : MeetVerdict) × IsMeetVerdict m may b v
  ordered-some =
      let a = demand_of m b.advisory in
      let can = demand_can_be_met m b.advisory is of.advisory in
      let area = area_of_box b.states in
      let w = window_of_box m b.states.range b.states.closing of.flown order.range order.closing in
      let low = low_time a may area w.times can some fit w.ends in
      let high = high_time a may area w.times can some fit w.ends in
      elim (apart_or_not m.half a may area w.times low high) [
        | inl apart ↦ (Certified, λ e. apart-safe m.half a may area w.times can some apart ((in_window m b.states b.advisory may w.times w.window).0 e))
        | inr near ↦ let x = met w.times w.window low high near in (Reported x.0, x.1)
      ]

pub verdict-some : (m : ModelData) (may : Manoeuvre) (b : AuditedBox) → IsModel m → IsBoxOf m b → IsArea (area_of_box b.states) → 0 < may.accel → may.rate ≤ fastest → RatesFit may b.states.intruder →
    (v : MeetVerdict) × IsMeetVerdict m may b v
verdict-some m may b is of fits some fast fit = elim (in_order_or_empty b.states) [
  | inl order ↦ ordered-some m may b is of fits some fast fit order
  | inr empty ↦ (Certified, λ e. empty e.0 e.1 e.4.some e.4.inside)
]
