use Rattle.std.proofs.Common.{arith, rules}
use Rattle.std.proofs.lemmas.Int.{ints}
use Rattle.acas_region.proofs.Signs.{minus-whole}
use Rattle.acas_region.proofs.borders.from_over.Goals as goal

pub invariant_of-result : goal.invariant_of-result
invariant_of-result c =
    let m1 = minus-whole _ c.args.area.now.v0.greatest _ c.minus.ensures.value c.args.area.now.fits.own.greatest (omega arith) in
    let m2 = minus-whole _ c.args.asked.now.hi _ c.minus-2.ensures.value c.args.asked.now.within.hi (omega arith) in
    let m3 = minus-whole _ c.args.area.now.h.least _ c.minus-3.ensures.value c.args.area.now.fits.altitude.least (omega arith) in
    let m4 = minus-whole _ c.args.area.now.v1.least _ c.minus-4.ensures.value c.args.area.now.fits.intruder.least (omega arith) in
    record {
      fits = rw (m1.0, m2.0, m3.0, m4.0) (record {
        start = m1.1;
        aim = m2.1;
        some = c.args.asked.now.within.some;
        pull = omega (arith, c.args.asked.now.within.pull, c.args.asked.now.within.limit);
        hold = c.args.asked.now.within.delay;
        height = m3.1;
        rate = m4.1;
        at_once = λ h. absurd (omega (arith, ints, h, c.requires));
      });
    }

pub returns : goal.returns
returns c = search rules
