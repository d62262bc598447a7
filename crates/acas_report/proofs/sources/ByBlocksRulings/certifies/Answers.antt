use Rattle.std.proofs.Common.{◌≡◌, true, sym, ◌∙◌, ap}
use Rattle.acas_audit_blocks.specs.Audits.{certified_at}
use Rattle.acas_audit_blocks.specs.declared.block_audit.CellSets.{CellSets}
use Rattle.acas_cells.specs.Sets.{holds}
use Rattle.acas_report.proofs.sources.ByBlocksRulings.certifies.Goals as goal

pub returns-then-has-clause-certified : goal.returns-then-has-clause-certified
returns-then-has-clause-certified c = λ _.
    let name = c.args.name.now in
    let there : holds (certified_at c.args.self.now.0 name.i name.j name.k) name.advice ≡ true =
    ap (λ (s : CellSets). holds s.certified name.advice) (sym c.sets-sets.ensures) ∙ (sym c.has.ensures ∙ c.if-has.true)
    in
    c.requires.ready.1.safe name.i name.j name.k name.advice c.requires.cell c.requires.advice there
