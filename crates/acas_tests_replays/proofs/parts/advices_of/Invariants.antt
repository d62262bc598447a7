use Rattle.acas_base.specs.Advices.{AreAdvicesOf}
use Rattle.acas_tests_replays.proofs.parts.advices_of.Given as goal

abbrev pub invariant-loop-digit : goal.invariant-loop-digit
invariant-loop-digit l = AreAdvicesOf l.model l.advices
