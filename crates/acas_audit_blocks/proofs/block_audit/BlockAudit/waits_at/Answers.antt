use Rattle.std.proofs.Common.{refl, arith}
use Rattle.std.proofs.lemmas.Grind.{common_steps}
use Rattle.acas_audit_blocks.proofs.Rows.{found_in_row}
use Rattle.acas_audit_blocks.proofs.block_audit.BlockAudit.waits_at.Goals as goal

pub waits_in_row-requires-clause-within : goal.waits_in_row-requires-clause-within
waits_in_row-requires-clause-within c = grind (arith, common_steps)

pub returns-then-waits_in_row-clause-some : goal.returns-then-waits_in_row-clause-some
returns-then-waits_in_row-clause-some c = λ _.
    let found = c.if-waits_in_row.ensures.some refl in
    found_in_row c.args.self.now c.args.block.now c.args.i c.loop-j.j c.place_of-start.result found.0 c.args.advice c.requires.from c.requires.before
    (omega (arith, c.loop-j.auto.j)) (omega (arith, c.loop-j-test.true, c.loop-j.auto.j-end)) c.place_of-start.ensures.value found.1 found.2 found.3

pub loop-j-preserved : goal.loop-j-preserved
loop-j-preserved c = grind (arith, common_steps)
