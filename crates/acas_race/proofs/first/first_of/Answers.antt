use Rattle.acas_race.specs.View.{race_in, instant_at}
use Rattle.acas_race.proofs.Tests.{last_of_all, turn_of_all, last_of_ends, first_of_all}
use Rattle.acas_race.proofs.first.first_of.Goals as goal

pub returns-then-is_lower-2 : goal.returns-then-is_lower-2
returns-then-is_lower-2 c = last_of_all (race_in c.args.contest.now) (instant_at c.args.from.now) (instant_at c.args.turn.now) (instant_at c.args.to.now) c.args.from.now.within.some c.args.turn.now.within.some c.args.to.now.within.some
    c.is_lower.result c.is_lower-then-is_lower.result c.is_lower.ensures c.is_lower-then-is_lower.ensures c.if-is_lower.true c.if-is_lower-2.true

pub returns-else-is_lower-2 : goal.returns-else-is_lower-2
returns-else-is_lower-2 c = turn_of_all (race_in c.args.contest.now) (instant_at c.args.from.now) (instant_at c.args.turn.now) (instant_at c.args.to.now) c.args.from.now.within.some c.args.turn.now.within.some c.args.to.now.within.some
    c.is_lower.result c.is_lower-then-is_lower.result c.is_lower.ensures c.is_lower-then-is_lower.ensures c.if-is_lower.true c.if-is_lower-2.false

pub returns-then-is_lower-3 : goal.returns-then-is_lower-3
returns-then-is_lower-3 c = last_of_ends (race_in c.args.contest.now) (instant_at c.args.from.now) (instant_at c.args.turn.now) (instant_at c.args.to.now) c.args.from.now.within.some c.args.turn.now.within.some c.args.to.now.within.some
    c.is_lower.result c.is_lower-else-is_lower.result c.is_lower.ensures c.is_lower-else-is_lower.ensures c.if-is_lower.false c.if-is_lower-3.true

pub returns-else-is_lower-3 : goal.returns-else-is_lower-3
returns-else-is_lower-3 c = first_of_all (race_in c.args.contest.now) (instant_at c.args.from.now) (instant_at c.args.turn.now) (instant_at c.args.to.now) c.args.from.now.within.some c.args.turn.now.within.some c.args.to.now.within.some
    c.is_lower.result c.is_lower-else-is_lower.result c.is_lower.ensures c.is_lower-else-is_lower.ensures c.if-is_lower.false c.if-is_lower-3.false
