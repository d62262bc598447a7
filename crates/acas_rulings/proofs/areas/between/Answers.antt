use Rattle.std.proofs.Common.{arith}
use Rattle.std.proofs.lemmas.Int.{ints}
use Rattle.acas_rulings.proofs.Spans.{rising_between}
use Rattle.acas_rulings.proofs.areas.between.Goals as goal

pub new-requires : goal.new-requires
new-requires c =
    let rises = rising_between c.args.axis.now c.value-least.ensures.axis.rising c.args.first c.args.last c.requires.rising c.requires.last in
    omega (arith, ints, rises, c.value-least.ensures.value, c.value-greatest.ensures.value)
