use Rattle.acas_flight.specs.Response.{demand_of, lasting}
use Rattle.acas_areas.specs.View.{area_of, times_of}
use Rattle.acas_areas.specs.Search.{unit}
use Rattle.acas_rulings.specs.Witness.{search_between}
use Rattle.acas_witness.proofs.Contacts.{unit_positive, contact_of, during_of}
use Rattle.acas_witness.proofs.finding.find.Goals as goal

pub returns-clause-rule : goal.returns-clause-rule
returns-clause-rule c =
    let a = demand_of c.args.model.now c.args.advisory in
    let b = area_of c.args.area.now in
    let n = c.plan_in-plan.ensures.plan in
    record {
      low = n.low;
      high = n.high;
      at_low = n.at_low;
      at_high = n.at_high;
      flight = n.found.flight;
      found = n.found.found;
      prints = c.flight_of.ensures.prints.over (unit (search_between a b n.low n.high)) n.found.flight (unit_positive a b n.low n.high n.low_end n.high_end) n.found.point;
    }

pub returns-clause-contact : goal.returns-clause-contact
returns-clause-contact c =
    let a = demand_of c.args.model.now c.args.advisory in
    let b = area_of c.args.area.now in
    let n = c.plan_in-plan.ensures.plan in
    contact_of c.args.model.now.half a b (times_of c.args.window.now) c.plan_in-plan.result c.flight_of.result n
    (c.flight_of.ensures.prints.over (unit (search_between a b n.low n.high)) n.found.flight (unit_positive a b n.low n.high n.low_end n.high_end) n.found.point) c.flight_of.ensures.reduced

pub returns-clause-endangered : goal.returns-clause-endangered
returns-clause-endangered c =
    let a = demand_of c.args.model.now c.args.advisory in
    let b = area_of c.args.area.now in
    let n = c.plan_in-plan.ensures.plan in
    let t = contact_of c.args.model.now.half a b (times_of c.args.window.now) c.plan_in-plan.result c.flight_of.result n
    (c.flight_of.ensures.prints.over (unit (search_between a b n.low n.high)) n.found.flight (unit_positive a b n.low n.high n.low_end n.high_end) n.found.point) c.flight_of.ensures.reduced in
    (t.q, t.altitude, t.own, t.intruder, t.response, t.contact)

pub returns-clause-time : goal.returns-clause-time
returns-clause-time c = rw c.flight_of.ensures.time c.plan_in-plan.ensures.flown.limits.curve.time

pub returns-clause-during : goal.returns-clause-during
returns-clause-during c =
    let a = demand_of c.args.model.now c.args.advisory in
    let b = area_of c.args.area.now in
    let n = c.plan_in-plan.ensures.plan in
    let t = contact_of c.args.model.now.half a b (times_of c.args.window.now) c.plan_in-plan.result c.flight_of.result n
    (c.flight_of.ensures.prints.over (unit (search_between a b n.low n.high)) n.found.flight (unit_positive a b n.low n.high n.low_end n.high_end) n.found.point) c.flight_of.ensures.reduced in
    during_of (times_of c.args.window.now) c.flight_of.result.time t.q (lasting t.response) t.contact.some (rw c.flight_of.ensures.time c.plan_in-plan.ensures.flown.limits.curve.time.least) t.time_over t.contact.time
