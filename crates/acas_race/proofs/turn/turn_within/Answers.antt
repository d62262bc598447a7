use Rattle.std.proofs.Common.{arith}
use Rattle.std.proofs.lemmas.Grind.{common_steps}
use Rattle.acas_rulings.specs.Turns.{turning, too_slow}
use Rattle.acas_race.specs.View.{instant_at}
use Rattle.acas_race.proofs.Tests.{test_false}
use Rattle.acas_race.proofs.turn.turn_within.Goals as goal

pub returns-then-contest-clause-looked : goal.returns-then-contest-clause-looked
returns-then-contest-clause-looked c = turning (instant_at c.args.from.now) c.requires.rising (too_slow (test_false _ _ c.is_late.result c.is_late.ensures c.if-is_late.false) c.if-contest.true)

pub early_turn-requires-clause-early : goal.early_turn-requires-clause-early
early_turn-requires-clause-early c = grind (arith, common_steps)
