use Rattle.std.proofs.Common.{arith, unsigned_abs}
use Rattle.std.proofs.lemmas.Int.{ints}
use Rattle.acas_frac.specs.Fraction.{Fraction}
use Rattle.acas_flight.specs.Response.{demand_of}
use Rattle.acas_flight.specs.Clear.{area_of_box}
use Rattle.acas_flight_lemmas.proofs.Models.{demand_can_be_met}
use Rattle.acas_areas.specs.View.{times_of}
use Rattle.acas_areas.specs.Search.{unit}
use Rattle.acas_rulings.specs.Boxes.{audited}
use Rattle.acas_rulings.specs.MeetingView.{may_of}
use Rattle.acas_manoeuvre_lemmas.proofs.Safe.{apart-safe}
use Rattle.acas_manoeuvre_lemmas.proofs.Windows.{in_window}
use Rattle.acas_rulings.specs.Verdicts.{hunt_between}
use Rattle.acas_intruder.proofs.Finding.{some}
use Rattle.acas_intruder.proofs.Meetings.{accel_is, met, prints-course}
use Rattle.acas_intruder.proofs.verdict.meet_verdict.Goals as goal

pub returns-then-is_apart : goal.returns-then-is_apart
returns-then-is_apart c = λ danger.
    let m = c.args.model.now in
    let b = audited c.args.area.now in
    let may = may_of c.args.may.now in
    let w = times_of c.window_of_box-window.result in
    apart-safe m.half (demand_of m b.advisory) may (area_of_box b.states) w (demand_can_be_met m b.advisory c.grid.ensures.valid c.requires.area.advisory) (omega (arith, ints, c.args.may.now.within.least_accel))
    (c.is_apart.ensures.0 c.if-is_apart.true) ((in_window m b.states b.advisory may w c.window_of_box-window.ensures).0 danger)

pub meeting_of-requires-clause-during : goal.meeting_of-requires-clause-during
meeting_of-requires-clause-during c =
    let time = c.course_in-flown.result.plan.time in
    (c.window_of_box-window.ensures.exact (Fraction.den time) (unsigned_abs (Fraction.num time)) c.course_in-flown.ensures.flown.limits.curve.time.some).0 c.course_in-flown.ensures.during

pub returns : goal.returns
returns c =
    let m = c.args.model.now in
    let b = audited c.args.area.now in
    let may = may_of c.args.may.now in
    let w = times_of c.window_of_box-window.result in
    let a = demand_of m b.advisory in
    let f = c.course_in-flown.result in
    let n = c.course_in-flown.ensures.course in
    let prints = prints-course (unit (hunt_between a may (area_of_box b.states) n.low n.high).search) (unsigned_abs c.args.may.now.accel) c.args.may.now.accel n.found.course f c.meeting_of.result
    (some m.half a may (area_of_box b.states) w f n) (accel_is c.args.may.now) n.found.plan n.found.turn c.meeting_of.ensures.own c.meeting_of.ensures.against in
    met m may b w f c.meeting_of.result c.window_of_box-window.ensures n prints c.meeting_of.ensures.rule c.meeting_of.ensures.contact c.meeting_of.ensures.reduced
