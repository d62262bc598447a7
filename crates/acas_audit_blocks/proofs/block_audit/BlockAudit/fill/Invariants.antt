use Rattle.acas_audit_blocks.specs.Audits.{AreFilledTo, HaveSameCells, place_of}
use Rattle.acas_audit_blocks.proofs.block_audit.BlockAudit.fill.Given as goal

abbrev pub invariant-loop-i : goal.invariant-loop-i
invariant-loop-i l = record {
  same : HaveSameCells l.fn.self l.self;
  filled : AreFilledTo l.model l.advices l.n l.present (place_of l.self l.i 0 0) l.self;
}

abbrev pub invariant-loop-j : goal.invariant-loop-j
invariant-loop-j l = record {
  same : HaveSameCells l.fn.self l.self;
  filled : AreFilledTo l.model l.advices l.n l.present (place_of l.self l.i l.j 0) l.self;
}

abbrev pub invariant-loop-k : goal.invariant-loop-k
invariant-loop-k l = record {
  same : HaveSameCells l.fn.self l.self;
  filled : AreFilledTo l.model l.advices l.n l.present (place_of l.self l.i l.j l.k) l.self;
}
