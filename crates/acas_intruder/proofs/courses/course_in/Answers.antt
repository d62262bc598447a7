use Rattle.std.proofs.Common.{rules}
use Rattle.acas_flight.specs.Response.{demand_of}
use Rattle.acas_areas.specs.View.{area_of, times_of}
use Rattle.acas_rulings.specs.MeetingView.{may_of}
use Rattle.acas_intruder.proofs.Finding.{course_from, during, pursuit_can}
use Rattle.acas_intruder.proofs.courses.course_in.Goals as goal

pub meet-requires : goal.meet-requires
meet-requires c =
    let m = c.args.on.now.model.now in
    let t = c.search_times-times in
    pursuit_can m.half (demand_of m c.args.on.now.advisory) (may_of c.args.on.now.may.now) (area_of c.args.on.now.area.now) (times_of c.args.on.now.window.now) t.result.low t.result.high c.pursuit_of.result
    c.pursuit_of.ensures.half c.pursuit_of.ensures.hunt t.ensures.low t.ensures.high c.requires.not_apart

pub returns-clause-course : goal.returns-clause-course
returns-clause-course c =
    let m = c.args.on.now.model.now in
    let t = c.search_times-times in
    course_from m.half (demand_of m c.args.on.now.advisory) (may_of c.args.on.now.may.now) (area_of c.args.on.now.area.now) (times_of c.args.on.now.window.now) t.result.low t.result.high c.pursuit_of.result
    c.pursuit_of.ensures.half c.pursuit_of.ensures.hunt t.ensures.low t.ensures.high c.requires.not_apart
    c.meet.result c.meet.ensures

pub returns-clause-during : goal.returns-clause-during
returns-clause-during c =
    let m = c.args.on.now.model.now in
    during m.half (demand_of m c.args.on.now.advisory) (may_of c.args.on.now.may.now) (area_of c.args.on.now.area.now) (times_of c.args.on.now.window.now) c.meet.result (returns-clause-course c)
    c.meet.ensures.flown.flown.limits.curve.time

pub returns-clause-turned : goal.returns-clause-turned
returns-clause-turned c = search rules
