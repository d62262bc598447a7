use Rattle.std.proofs.Common.{◌≡◌, arith, pos, neg_ℤ, ◌-ℤ◌, to_z, of_z}
use Rattle.std.specs.Int.{w64}
use Rattle.std.proofs.lemmas.Int.{ints}
use Rattle.acas_meeting_search.proofs.Turns.{curve_whole}
use Rattle.acas_meeting_search.proofs.pursuit.Pursuit.downward.Goals as goal

pub returns-clause-goal : goal.returns-clause-goal
returns-clause-goal c =
    let m = c.args.self.now.may in
    let e : to_z w64 (of_z w64 (pos 0 -ℤ to_z w64 (of_z w64 c.args.self.now.may.rate))) ≡ neg_ℤ c.args.self.now.may.rate = omega (arith, ints, m.within.least_rate, m.within.greatest_rate) in
    rw e at c.whole-2.ensures

pub returns-clause-flown : goal.returns-clause-flown
returns-clause-flown c =
    let p = c.args.self.now in
    let v : to_z w64 (of_z w64 c.args.self.now.survey.area.v1.least) ≡ c.args.self.now.survey.area.v1.least = omega (arith, ints, p.survey.area.fits.intruder.least) in
    let e : to_z w64 (of_z w64 (pos 0 -ℤ to_z w64 (of_z w64 c.args.self.now.may.rate))) ≡ neg_ℤ c.args.self.now.may.rate = omega (arith, ints, p.may.within.least_rate, p.may.within.greatest_rate) in
    curve_whole p p.survey.area.v1.least (neg_ℤ p.may.rate) c.whole.result c.whole-2.result c.args.time.now (rw v at c.whole.ensures) (rw e at c.whole-2.ensures)
    p.survey.area.fits.intruder.least (omega (arith, ints, p.may.within.least_rate, p.may.within.greatest_rate)) c.requires
