use Rattle.std.proofs.Common.{◌≡◌, to_z, of_z, arith}
use Rattle.std.proofs.lemmas.Grind.{common_steps}
use Rattle.std.specs.Int.{w64}
use Rattle.std.proofs.lemmas.Int.{ints}
use Rattle.acas_frac.specs.Fraction.{whole_of}
use Rattle.acas_intruder.proofs.Meetings.{fine_bend}
use Rattle.acas_intruder.proofs.prints.against_of.Goals as goal

pub segments_of-requires-clause-dens : goal.segments_of-requires-clause-dens
segments_of-requires-clause-dens c =
    let m = c.args.may.now in
    let t = c.args.turn.now in
    let a : to_z w64 (of_z w64 c.args.may.now.accel) ≡ c.args.may.now.accel = omega (arith, ints, m.within.least_accel, m.within.greatest_accel) in
    let e = rw a at c.whole-accel.ensures in
    rw e (fine_bend t.intruder t.goal (whole_of m.accel) t.time c.requires)

pub returns : goal.returns
returns c = grind (arith, common_steps)
