use Rattle.std.proofs.Common.{arith}
use Rattle.std.proofs.lemmas.Grind.{common_steps}
use Rattle.acas_outside.proofs.Appended.{part_of_joined, on_err_always}
use Rattle.acas_outside.proofs.emitting.emit_parts.Goals as goal

pub returns-in_err-emit-clause-err : goal.returns-in_err-emit-clause-err
returns-in_err-emit-clause-err g c =
    on_err_always _ (part_of_joined _ _ _ c.args.parts.now c.loop-part.part-index _ c.loop-part-test.true c.loop-part.invariant.appended c.in_err-emit.ensures.err)

pub loop-part-preserved : goal.loop-part-preserved
loop-part-preserved g c = grind (arith, common_steps)
