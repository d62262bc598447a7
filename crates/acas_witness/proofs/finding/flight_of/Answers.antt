use Rattle.std.proofs.Common.{◌≡◌, ◌∙◌, ◌-◌, ◌*◌, ◌≤◌, pos, unsigned_abs, to_z, of_z, arith, mul-le-mul}
use Rattle.std.specs.Int.{w64}
use Rattle.std.proofs.lemmas.Int.{ints}
use Rattle.acas_flight_lemmas.proofs.Held.{min_scaled, sub_scaled}
use Rattle.acas_areas.proofs.Finer.{IsOver-finer}
use Rattle.acas_witness_response.proofs.Assembly.{fine_some}
use Rattle.acas_witness.proofs.Contacts.{planned_dens}
use Rattle.acas_witness.proofs.finding.flight_of.Goals as goal

pub segments_of-first-requires-clause-dens : goal.segments_of-first-requires-clause-dens
segments_of-first-requires-clause-dens c =
    let l = c.requires.limits in
    let d = planned_dens c.args.plan.now.own c.args.plan.now.aim c.args.plan.now.pull c.args.plan.now.hold c.args.plan.now.time l in
    let m = mul-le-mul c.held_part-hold.ensures.den (let same : c.args.plan.now.own.den * c.args.plan.now.aim.den * unsigned_abs c.args.plan.now.pull.num ≤ c.args.plan.now.own.den * c.args.plan.now.aim.den * unsigned_abs c.args.plan.now.pull.num = omega arith in same) in
    omega (arith, m, d)

pub returns-clause-prints : goal.returns-clause-prints
returns-clause-prints c = record {
  over = λ q n p is.
      let f = fine_some q n.pull c.args.plan.now.pull c.requires.limits.curve.pull p is.pull in
      let t = IsOver-finer c.args.plan.now.time q (q * n.pull) (pos n.time) is.time in
      let g = IsOver-finer c.args.plan.now.hold q (q * n.pull) (pos n.hold) is.hold in
      let h : to_z w64 (of_z w64 c.args.plan.now.altitude) ≡ c.args.plan.now.altitude = omega (arith, ints, c.requires.altitude) in
      record {
        time = is.time;
        altitude = h ∙ is.altitude;
        own = is.own;
        intruder = is.intruder;
        hold = rw (min_scaled n.time n.hold (q * n.pull)) at (c.held_part-hold.ensures.parts (q * (q * n.pull)) (n.time * (q * n.pull)) (n.hold * (q * n.pull)) f t g);
        segments = c.segments_of-first.ensures q n.own n.aim n.pull ((n.time - n.hold) * (q * n.pull)) p is.own is.aim is.pull
            (rw (sub_scaled n.time n.hold (q * n.pull)) at (c.held_part-hold.ensures.rest (q * (q * n.pull)) (n.time * (q * n.pull)) (n.hold * (q * n.pull)) f t g));
      };
}
