use Rattle.std.proofs.Common.{ℕ, arith}
use Rattle.acas_rulings.specs.Turns.{Instant, turning, turned_before, turns_after}
use Rattle.acas_flight_windows.proofs.NearestTimes.{before_end}
use Rattle.acas_race.specs.View.{instant_at}
use Rattle.acas_race.proofs.turn.clipped.Goals as goal

abbrev turn : ℕ → ℕ → Instant
turn n d = record { num = n; den = d }

pub returns-then-num-from-clause-looked : goal.returns-then-num-from-clause-looked
returns-then-num-from-clause-looked c = turned_before (instant_at c.args.from.now) (turn c.args.num c.args.den) c.requires.rising c.requires.some c.requires.turn c.if-num-from.true

pub returns-then-to-den-clause-looked : goal.returns-then-to-den-clause-looked
returns-then-to-den-clause-looked c = turns_after (instant_at c.args.to.now) (turn c.args.num c.args.den) c.requires.rising c.requires.some c.requires.turn c.if-to-den.true

pub invariant_of-result : goal.invariant_of-result
invariant_of-result c = record {
  within = record {
    some = c.requires.some;
    den = omega (arith, c.requires.den);
    num = let n = c.if-to-den.false in before_end c.args.num c.args.den c.args.to.now.num c.args.to.now.den c.args.to.now.within.some c.args.to.now.within.num (omega (arith, n));
  };
}

pub returns-clause-looked : goal.returns-clause-looked
returns-clause-looked c = turning (turn c.args.num c.args.den) c.requires.rising c.requires.turn
