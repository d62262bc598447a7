use Rattle.std.proofs.Common.{◌≡◌, ◌*◌, arith, pos, ◌+ℤ◌, ◌<ℤ◌, to_z, of_z, rules}
use Rattle.std.specs.Int.{w64}
use Rattle.std.proofs.lemmas.Int.{ints}
use Rattle.acas_rulings.specs.Turns.{turning, ahead}
use Rattle.acas_race.specs.View.{instant_at}
use Rattle.acas_race.proofs.turn.early_turn.Goals as goal

pub returns-then-reach-lt0-clause-looked : goal.returns-then-reach-lt0-clause-looked
returns-then-reach-lt0-clause-looked c =
    let v : to_z w64 (of_z w64 c.args.contest.now.chase.start) ≡ c.args.contest.now.chase.start = omega (arith, ints, c.args.contest.now.chase.fits.start) in
    let w : to_z w64 (of_z w64 c.args.contest.now.chase.rate) ≡ c.args.contest.now.chase.rate = omega (arith, ints, c.args.contest.now.chase.fits.rate) in
    let value = rw (v, w, c.requires.held) at c.reach-reach.ensures.value in
    let size = c.reach-reach.ensures.size in
    let back : to_z w64 (of_z w64 c.reach-reach.result) ≡ c.reach-reach.result = omega (arith, ints, size) in
    let under : c.reach-reach.result <ℤ pos 0 = omega (arith, ints, c.if-reach-lt0.true, back) in
    let l : (c.args.contest.now.chase.rate +ℤ pos (c.args.contest.now.chase.hold * c.args.contest.now.chase.pull)) <ℤ c.args.contest.now.chase.start = omega (arith, ints, under, value) in
    turning (instant_at c.args.from.now) c.requires.rising (ahead c.requires.early c.requires.gains l)

pub clipped-requires-clause-num : goal.clipped-requires-clause-num
clipped-requires-clause-num c = search rules
