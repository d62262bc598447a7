use Rattle.std.proofs.Common.{◌≡◌, arith, to_z, of_z}
use Rattle.std.specs.Int.{w64}
use Rattle.std.proofs.lemmas.Int.{ints}
use Rattle.acas_race.specs.View.{race_in}
use Rattle.acas_race.proofs.Turns.{late-ahead}
use Rattle.acas_race.proofs.turn.late_turn.Goals as goal

pub natural-num-requires : goal.natural-num-requires
natural-num-requires c =
    let v : to_z w64 (of_z w64 c.args.contest.now.chase.start) ≡ c.args.contest.now.chase.start = omega (arith, ints, c.args.contest.now.chase.fits.start) in
    let w : to_z w64 (of_z w64 c.args.contest.now.goal) ≡ c.args.contest.now.goal = omega (arith, ints, c.args.contest.now.fits.goal) in
    let value = rw (v, w, c.requires.held) at c.reach.ensures.value in
    let size = c.reach.ensures.size in
    let back : to_z w64 (of_z w64 c.reach.result) ≡ c.reach.result = omega (arith, ints, size) in
    let f = late-ahead (race_in c.args.contest.now) c.args.contest.now.fits.some_accel c.args.contest.now.fits.up c.requires.late in
    rw back (omega (arith, ints, f, value))
