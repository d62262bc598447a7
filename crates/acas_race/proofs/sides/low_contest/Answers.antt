use Rattle.std.proofs.Common.{◌≡◌, ap, pos, to_z, of_z, unsigned_abs, arith}
use Rattle.std.specs.Int.{w64}
use Rattle.std.proofs.lemmas.Int.{ints}
use Rattle.acas_flight.specs.Border.{Border}
use Rattle.acas_rulings.specs.Race.{race_of}
use Rattle.acas_frac.proofs.Orders.{unsigned_abs-high}
use Rattle.acas_race.proofs.sides.low_contest.Goals as goal

pub invariant_of-result : goal.invariant_of-result
invariant_of-result c =
    let g : to_z w64 (of_z w64 c.args.may.now.rate) ≡ pos (unsigned_abs c.args.may.now.rate) = omega (arith, ints, c.args.may.now.within.least_rate, c.args.may.now.within.greatest_rate) in
    let a : c.natural.result ≡ unsigned_abs c.args.may.now.accel = omega (arith, ints, c.natural.ensures) in
    let r : c.low_chase.result.rate ≡ c.args.area.now.v1.greatest = ap (λ (s : Border). s.rate) c.low_chase.ensures in
    record {
      fits = rw (g, a, r) (record {
        goal = omega (arith, ints, c.args.may.now.within.least_rate, c.args.may.now.within.greatest_rate);
        some_accel = omega (arith, ints, c.args.may.now.within.least_accel);
        accel = omega (arith, ints, c.args.may.now.within.least_accel, c.args.may.now.within.greatest_accel);
        up = unsigned_abs-high c.args.area.now.v1.greatest (unsigned_abs c.args.may.now.rate) c.requires.greatest;
      });
    }

pub returns : goal.returns
returns c =
    let g : to_z w64 (of_z w64 c.args.may.now.rate) ≡ pos (unsigned_abs c.args.may.now.rate) = omega (arith, ints, c.args.may.now.within.least_rate, c.args.may.now.within.greatest_rate) in
    let a : c.natural.result ≡ unsigned_abs c.args.may.now.accel = omega (arith, ints, c.natural.ensures) in
    rw (g, a) (ap (λ (s : Border). race_of s.start s.aim s.pull s.hold s.height s.rate (pos (unsigned_abs c.args.may.now.rate)) (unsigned_abs c.args.may.now.accel)) c.low_chase.ensures)
